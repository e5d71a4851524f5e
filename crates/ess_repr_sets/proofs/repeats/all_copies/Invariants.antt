use Rattle.std.proofs.Common.{◌≡◌, ◌++◌, map, drop}
use Rattle.ess_semantics.specs.Layers.{each_repeated}
use Rattle.ess_core.specs.ValueViews.{pure_val}
use Rattle.ess_repr_sets.proofs.repeats.all_copies.Given as goal

abbrev pub invariant-loop-k : goal.invariant-loop-k
invariant-loop-k l =
    each_repeated l.times (map pure_val l.vals) ≡ map pure_val l.row ++ each_repeated (drop l.k l.times) (map pure_val (drop l.k l.vals))
