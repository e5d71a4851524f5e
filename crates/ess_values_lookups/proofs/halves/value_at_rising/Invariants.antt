use Rattle.std.proofs.Common.{◌≡◌, ◌≤◌, false, length, map, take, drop}
use Rattle.std.specs.Prelude.{◌-◌}
use Rattle.ess_semantics.specs.Collections.{holds}
use Rattle.ess_core.specs.ValueViews.{pure_val}
use Rattle.ess_values_lookups.proofs.Slices.{key}
use Rattle.ess_values_lookups.proofs.halves.value_at_rising.Given as goal

-- No pair before low begins with the argument, and none from high on.
abbrev pub invariant-halve : goal.invariant-halve
invariant-halve l = record {
  ordered : l.low ≤ l.high;
  within : l.high ≤ length l.pairs;
  before : holds (take l.low (map key l.pairs)) (pure_val l.at) ≡ false;
  behind : holds (drop l.high (map key l.pairs)) (pure_val l.at) ≡ false;
}

abbrev pub decreases-halve : goal.decreases-halve
decreases-halve l = l.high - l.low
