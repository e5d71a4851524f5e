use Rattle.std.proofs.Common.{sym, ap, ◌∙◌, map}
use Rattle.ess_domains.specs.Assignments.{pure_assignment}
use Rattle.ess_translate_given_laws.specs.Counts.{too_many}
use Rattle.ess_translate_plans.specs.Views.{pure_plan}
use Rattle.ess_translate_files.specs.Wholes.{file_header}
use Rattle.ess_translate_files.proofs.Refused.{too_many_kept, none_too_many}
use Rattle.ess_translate_files.proofs.tables.pass_counts.Goals as goal

-- src/tables.rt
pub returns-in-Ok-None-clause-ok : goal.returns-in-Ok-None-clause-ok
returns-in-Ok-None-clause-ok c =
    let w = c.requires.whole in
    let H = file_header c.args.file.now in
    let p = pure_assignment c.args.param.now in
    none_too_many (too_many H p) (sym c.in-Ok-None.field-0-is
    ∙ c.in-Ok-None.ensures H p w.header.ours (ap (map pure_plan) c.as_slice.ensures ∙ w.plans) c.requires.closed)

-- src/tables.rt
pub returns-in-Ok-Some-clause-refused : goal.returns-in-Ok-Some-clause-refused
returns-in-Ok-Some-clause-refused c =
    let w = c.requires.whole in
    let H = file_header c.args.file.now in
    let p = pure_assignment c.args.param.now in
    too_many_kept (too_many H p) c.in-Ok-Some.name c.in-Ok-Some.count (sym c.in-Ok-Some.field-0-is
    ∙ c.in-Ok-Some.ensures H p w.header.ours (ap (map pure_plan) c.as_slice.ensures ∙ w.plans) c.requires.closed)
