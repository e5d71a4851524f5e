use Rattle.std.proofs.Common.{◌≡◌, ◌++◌, map, drop, option_map}
use Rattle.ess_core.specs.ValueViews.{pure_val}
use Rattle.ess_repr_rows_laws.specs.RowLayers.{picked}
use Rattle.ess_repr_sets.proofs.members.picked.Given as goal

abbrev pub invariant-loop-k : goal.invariant-loop-k
invariant-loop-k l =
    picked l.flags (map pure_val l.vals) ≡ option_map (λ ys. map pure_val l.chosen ++ ys) (picked (drop l.k l.flags) (map pure_val (drop l.k l.vals)))
