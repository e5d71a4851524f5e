use Rattle.ess_core.specs.TableViews.{pure_cells}
use Rattle.ess_domains.specs.Assignments.{pure_assignment}
use Rattle.ess_translate_files.specs.Wholes.{file_header, file_model}
use Rattle.ess_translate_solutions.proofs.Joined.{parameter_joined}
use Rattle.ess_translate_solutions.proofs.translations.parameter.Goals as goal

-- src/translations.rt
pub returns-in-Ok-given_in-clause-ok : goal.returns-in-Ok-given_in-clause-ok
returns-in-Ok-given_in-clause-ok c =
    let m = c.in-Ok.file in
    let g = c.in-Ok-given_in.given in
    parameter_joined (λ b. b.items) c.args.model.now c.args.param.now (file_header m) (file_model m) (pure_assignment g.param)
    (pure_cells g.tables) c.given_text-text.result c.in-Ok.ensures.ok c.in-Ok-given_in.ensures.ok c.given_text-text.ensures.ok
