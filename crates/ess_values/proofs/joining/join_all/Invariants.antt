use Rattle.std.proofs.Common.{◌≡◌, ◌-◌, map, drop, length, Some}
use Rattle.ess_semantics.specs.Types.{join_all}
use Rattle.ess_values.specs.Shapes.{pure_shape}
use Rattle.ess_values.proofs.joining.join_all.Given as goal

abbrev pub invariant-loop-k : goal.invariant-loop-k
invariant-loop-k l = join_all (map pure_shape (drop (length l.shapes - l.k) l.shapes)) ≡ Some (pure_shape l.joined)
