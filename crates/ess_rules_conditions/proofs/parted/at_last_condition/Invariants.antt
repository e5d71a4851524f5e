use Rattle.std.proofs.Common.{◌≡◌, ◌≤◌, length, drop, None}
use Rattle.ess_core_nodes.specs.NodeViews.{pure_gens}
use Rattle.ess_refine_laws.specs.LeavingConditions.{at_last_condition}
use Rattle.ess_rules_conditions.proofs.parted.at_last_condition.Given as goal

abbrev pub invariant-loop-at : goal.invariant-loop-at
invariant-loop-at l = record {
  within : l.at ≤ length l.gens;
  none : at_last_condition (pure_gens (drop l.at l.gens)) ≡ None;
}

abbrev pub decreases-loop-at : goal.decreases-loop-at
decreases-loop-at l = l.at
