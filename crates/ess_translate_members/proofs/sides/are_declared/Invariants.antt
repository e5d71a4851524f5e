use Rattle.ess_translate_plans.specs.Views.{pure_side}
use Rattle.ess_translate_members.proofs.PlansInOrder.{PlansLeft}
use Rattle.ess_translate_members.proofs.sides.are_declared.Given as goal

abbrev pub invariant-loop-place : goal.invariant-loop-place
invariant-loop-place l = PlansLeft (pure_side l.side) l.plans l.closed l.place l.tables l.left
