use Rattle.std.proofs.Common.{◌≡◌, map, take}
use Rattle.ess_semantics.specs.Collections.{value_at}
use Rattle.ess_semantics.specs.Canonical.{somes}
use Rattle.ess_core.specs.ValueViews.{pure_val}
use Rattle.ess_repr_functions.proofs.lookup.values_at.Given as goal

abbrev pub invariant-loop-argument : goal.invariant-loop-argument
invariant-loop-argument l =
    map pure_val l.values ≡ somes (map (value_at (map pure_val l.items)) (map pure_val (take l.argument-index l.arguments)))
