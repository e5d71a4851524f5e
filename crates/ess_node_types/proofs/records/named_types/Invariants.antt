use Rattle.std.proofs.Common.{◌≡◌, ◌++◌, map, drop}
use Rattle.ess_semantics.specs.Lists.{zip}
use Rattle.ess_core.specs.TypeViews.{pure_ty, pure_field_ty}
use Rattle.ess_node_types.proofs.records.named_types.Given as goal

abbrev pub invariant-loop-i : goal.invariant-loop-i
invariant-loop-i l =
    map pure_field_ty l.named ++ zip (drop l.i l.names) (map pure_ty (drop l.i l.tys)) ≡ zip l.names (map pure_ty l.tys)
