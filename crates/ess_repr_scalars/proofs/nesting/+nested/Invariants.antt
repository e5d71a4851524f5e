use Rattle.std.proofs.Common.{◌≡◌, ◌+◌, ◌-◌, ◌*◌, map, length}
use Rattle.ess_core.specs.ValueViews.{pure_val}
use Rattle.ess_repr_scalars.proofs.NestingLoops.{ahead, in_turn}
use Rattle.ess_repr_scalars.proofs.nesting.+nested.Given as goal

abbrev pub invariant-nested_each-loop-k : goal.invariant-nested_each-loop-k
invariant-nested_each-loop-k l = in_turn l.index l.count l.vals ≡ ahead (map pure_val l.items) (in_turn l.index (l.count - l.k) l.rest)

abbrev pub decreases-nested : goal.decreases-nested
decreases-nested l = 2 * length l.index.now

abbrev pub decreases-nested_each : goal.decreases-nested_each
decreases-nested_each l = 2 * length l.index.now + 1
