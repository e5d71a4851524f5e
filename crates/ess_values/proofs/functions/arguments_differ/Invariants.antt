use Rattle.std.proofs.Common.{◌≡◌, map, drop}
use Rattle.ess_semantics.specs.Values.{from_of}
use Rattle.ess_core.specs.ValueViews.{pure_pair}
use Rattle.ess_values.specs.Neighbours.{neighbours_differ}
use Rattle.ess_values.proofs.functions.arguments_differ.Given as goal

abbrev pub invariant-loop-i : goal.invariant-loop-i
invariant-loop-i l = neighbours_differ (map from_of (map pure_pair l.pairs)) ≡ neighbours_differ (map from_of (map pure_pair (drop l.i l.pairs)))
