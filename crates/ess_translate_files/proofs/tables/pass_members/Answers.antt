use Rattle.std.proofs.Common.{sym, ap, ◌∙◌, map}
use Rattle.ess_core.specs.TableViews.{pure_cells}
use Rattle.ess_domains.specs.Assignments.{pure_assignment}
use Rattle.ess_translate_plans.specs.Views.{pure_plan}
use Rattle.ess_translate_files.specs.Wholes.{file_header}
use Rattle.ess_translate_files.proofs.Transported.{members_here, members_there}
use Rattle.ess_translate_files.proofs.tables.pass_members.Goals as goal

-- src/tables.rt
pub returns-in-Ok-true-clause-ok : goal.returns-in-Ok-true-clause-ok
returns-in-Ok-true-clause-ok c =
    let w = c.requires.whole in
    let H = file_header c.args.file.now in
    let p = pure_assignment c.args.param.now in
    let d = c.in-Ok-true.ensures.ok H p (ap (map pure_plan) c.as_slice.ensures ∙ w.plans) c.requires.closed in
    members_here H p c.args.file.now.model c.get.result.now c.args.tables.now c.as_slice-2.result.now c.get.ensures c.as_slice-2.ensures
    (d.yes c.in-Ok-true.field-0-test)

-- src/tables.rt
pub returns-in-Ok-false-clause-refused : goal.returns-in-Ok-false-clause-refused
returns-in-Ok-false-clause-refused c = λ few there.
    let w = c.requires.whole in
    let H = file_header c.args.file.now in
    let p = pure_assignment c.args.param.now in
    let d = c.in-Ok-false.ensures.ok H p (ap (map pure_plan) c.as_slice.ensures ∙ w.plans) c.requires.closed in (
      pure_cells c.args.tables.now,
      few,
      there,
      λ m. d.no c.in-Ok-false.field-0-test
          (members_there H p c.args.file.now.model c.get.result.now c.args.tables.now c.as_slice-2.result.now c.get.ensures
          c.as_slice-2.ensures m),
    )
