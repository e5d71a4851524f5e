use Rattle.std.proofs.Common.{Some, None}
use Rattle.ess_core.specs.TreeViews.{pure_ex as read_ex}
use Rattle.eprime_tree.specs.Views.{pure_ex}
use Rattle.eprime_read_convert.specs.Lines.{scope_of}
use Rattle.eprime_read.proofs.Growth.{greatest_found, greatest_readable, converted}
use Rattle.eprime_read.proofs.growing.with_greatest.Goals as goal

pub with_goal-requires : goal.with_goal-requires
with_goal-requires c =
    greatest_readable c.args.draft.model c.args.draft.lines (read_ex c.args.ex.now) (pure_ex (scope_of c.args.draft.lines) c.in-Some.ex) c.args.draft.sound
    (converted (scope_of c.args.draft.lines) _ (Some c.in-Some.ex) _ (read_ex c.args.ex.now) c.in_ok-ex.ensures c.in-Some.is c.new-bound.ensures)

pub returns-in-None : goal.returns-in-None
returns-in-None c =
    greatest_found c.args.draft.model c.args.draft.lines (read_ex c.args.ex.now) None c.args.draft.sound
    (converted (scope_of c.args.draft.lines) _ None _ (read_ex c.args.ex.now) c.in_ok-ex.ensures c.in-None.is c.new-bound.ensures)
