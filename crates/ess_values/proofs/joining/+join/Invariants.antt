use Rattle.std.proofs.Common.{◌≡◌, map, drop}
use Rattle.ess_values.specs.Shapes.{pure_shape, join_lists}
use Rattle.ess_values.proofs.Ahead.{ahead}
use Rattle.ess_values.proofs.joining.+join.Given as goal

abbrev pub invariant-join_each-loop-i : goal.invariant-join_each-loop-i
invariant-join_each-loop-i l =
    ahead (map pure_shape l.joined) (join_lists (map pure_shape (drop l.i l.xs)) (map pure_shape (drop l.i l.ys))) ≡ join_lists (map pure_shape l.xs) (map pure_shape l.ys)
