use Rattle.std.proofs.Common.{drop}
use Rattle.ess_translate_plans.specs.Views.{pure_side}
use Rattle.ess_translate_plans.proofs.SideTables.{Same, on_side}
use Rattle.ess_translate_plans.proofs.declaring.declares_side.Given as goal

abbrev pub invariant-loop-plan : goal.invariant-loop-plan
invariant-loop-plan l =
    Same (on_side (pure_side l.side) l.plans) l.decls (on_side (pure_side l.side) (drop l.plan-index l.plans)) l.rest
