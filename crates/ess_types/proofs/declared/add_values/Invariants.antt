use Rattle.std.proofs.Common.{◌≡◌, ◌++◌, map, drop}
use Rattle.ess_semantics.specs.Types.{named_ty}
use Rattle.ess_types.specs.Progress.{pure_named_ty}
use Rattle.ess_types.proofs.declared.add_values.Given as goal

abbrev pub invariant-loop-value : goal.invariant-loop-value
invariant-loop-value l =
    map pure_named_ty l.names ++ map (λ n. (n, named_ty l.of)) (drop l.value-index l.values)
    ≡ map pure_named_ty l.initial.names ++ map (λ n. (n, named_ty l.of)) l.values
