use Rattle.std.proofs.Common.{◌≡◌, map, drop}
use Rattle.ess_semantics.specs.Values.{itself}
use Rattle.ess_semantics.specs.Collections.{rises}
use Rattle.ess_core.specs.ValueViews.{pure_val}
use Rattle.ess_values_lookups.proofs.rising.rises.Given as goal

abbrev pub invariant-loop-i : goal.invariant-loop-i
invariant-loop-i l = rises itself (map pure_val l.items) ≡ rises itself (map pure_val (drop l.i l.items))
