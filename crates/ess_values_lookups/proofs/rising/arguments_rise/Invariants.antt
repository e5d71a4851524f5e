use Rattle.std.proofs.Common.{◌≡◌, map, drop}
use Rattle.ess_semantics.specs.Values.{from_of}
use Rattle.ess_semantics.specs.Collections.{rises}
use Rattle.ess_core.specs.ValueViews.{pure_pair}
use Rattle.ess_values_lookups.proofs.rising.arguments_rise.Given as goal

abbrev pub invariant-loop-i : goal.invariant-loop-i
invariant-loop-i l = rises from_of (map pure_pair l.pairs) ≡ rises from_of (map pure_pair (drop l.i l.pairs))
