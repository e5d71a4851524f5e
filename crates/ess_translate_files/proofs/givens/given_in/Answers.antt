use Rattle.ess_domains.specs.Assignments.{pure_assignment}
use Rattle.ess_translate_files.specs.Wholes.{file_header, file_model}
use Rattle.ess_translate_files.proofs.Refused.{is_param}
use Rattle.ess_translate_files.proofs.Solved.{given_read, given_held, given_refused}
use Rattle.ess_translate_files.proofs.givens.given_in.Goals as goal

-- src/givens.rt
pub returns-in-Ok-clause-ok : goal.returns-in-Ok-clause-ok
returns-in-Ok-clause-ok c =
    given_read c.args.file.now c.args.param.now c.in-Ok.param c.given_by.result c.in-Ok.ensures.ok
    c.given_by.ensures.param c.given_by.ensures.holds

-- src/givens.rt
pub returns-in-Ok-clause-whole : goal.returns-in-Ok-clause-whole
returns-in-Ok-clause-whole c =
    given_held c.args.file.now c.args.param.now c.in-Ok.param c.given_by.result c.in-Ok.ensures.ok
    c.given_by.ensures.param c.given_by.ensures.holds

-- src/givens.rt
pub returns-in-Ok-clause-refused : goal.returns-in-Ok-clause-refused
returns-in-Ok-clause-refused c =
    given_refused (file_header c.args.file.now) (file_model c.args.file.now) c.args.param.now (pure_assignment c.in-Ok.param)
    c.given_by.result c.in-Ok.ensures.ok c.given_by.ensures.refused
