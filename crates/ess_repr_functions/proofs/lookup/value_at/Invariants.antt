use Rattle.std.proofs.Common.{◌≡◌, map, drop}
use Rattle.ess_semantics.specs.Collections.{value_at}
use Rattle.ess_core.specs.ValueViews.{pure_val}
use Rattle.ess_repr_functions.proofs.lookup.value_at.Given as goal

abbrev pub invariant-loop-item : goal.invariant-loop-item
invariant-loop-item l =
    value_at (map pure_val l.items) (pure_val l.argument) ≡ value_at (map pure_val (drop l.item-index l.items)) (pure_val l.argument)
