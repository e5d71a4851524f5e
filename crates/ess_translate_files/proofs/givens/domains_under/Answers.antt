use Rattle.std.proofs.Common.{refl, sym, ap, ◌∙◌, subst, map}
use Rattle.std.specs.Prelude.{Err}
use Rattle.ess_core.specs.TableViews.{pure_env}
use Rattle.ess_translate_plans.specs.Views.{pure_plan}
use Rattle.ess_translate_files.specs.GivenFiles.{HasNoTables}
use Rattle.ess_translate_files.specs.Wholes.{file_header, file_model}
use Rattle.ess_translate_files.proofs.Refused.{domains_refused}
use Rattle.ess_translate_files.proofs.givens.domains_under.Goals as goal

-- src/givens.rt
pub returns-in-Err-clause-refused : goal.returns-in-Err-clause-refused
returns-in-Err-clause-refused c = λ p h.
    let H = file_header c.args.file.now in
    let E = file_model c.args.file.now in
    subst (HasNoTables H E p) (sym c.eval_no.ensures)
    (domains_refused H E (pure_env c.args.env.now) (map pure_plan c.as_slice.result.now) (Err c.in-Err.why) c.in-Err.why refl
    c.in-Err.ensures.big (ap (map pure_plan) c.as_slice.ensures ∙ c.requires.plans) p h)
