use Rattle.std.proofs.Common.{◌≡◌, map, drop}
use Rattle.ess_values.specs.Neighbours.{neighbours_differ}
use Rattle.ess_core.specs.ValueViews.{pure_val}
use Rattle.ess_eval_operators.proofs.partition_literals.neighbours_apart.Given as goal

abbrev pub invariant-loop-i : goal.invariant-loop-i
invariant-loop-i l = neighbours_differ (map pure_val l.items) ≡ neighbours_differ (map pure_val (drop l.i l.items))
