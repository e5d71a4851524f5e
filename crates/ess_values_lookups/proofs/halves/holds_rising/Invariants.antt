use Rattle.std.proofs.Common.{◌≡◌, ◌≤◌, false, length, map, take, drop}
use Rattle.std.specs.Prelude.{◌-◌}
use Rattle.ess_semantics.specs.Collections.{holds}
use Rattle.ess_core.specs.ValueViews.{pure_val}
use Rattle.ess_values_lookups.proofs.halves.holds_rising.Given as goal

-- No item before low is the value, and none from high on.
abbrev pub invariant-halve : goal.invariant-halve
invariant-halve l = record {
  ordered : l.low ≤ l.high;
  within : l.high ≤ length l.items;
  before : holds (take l.low (map pure_val l.items)) (pure_val l.val) ≡ false;
  behind : holds (drop l.high (map pure_val l.items)) (pure_val l.val) ≡ false;
}

abbrev pub decreases-halve : goal.decreases-halve
decreases-halve l = l.high - l.low
