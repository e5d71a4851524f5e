use Rattle.std.proofs.Common.{◌≡◌, ◌++◌, map, drop}
use Rattle.ess_semantics.specs.Lists.{zip}
use Rattle.ess_semantics.specs.Names.{keys}
use Rattle.ess_core.specs.TypeViews.{pure_ty, pure_field_ty}
use Rattle.ess_core.specs.TreeViews.{pure_field_ex}
use Rattle.ess_types_operators.proofs.records.named_types.Given as goal

abbrev pub invariant-loop-i : goal.invariant-loop-i
invariant-loop-i l =
    map pure_field_ty l.named ++ zip (keys (map pure_field_ex (drop l.i l.fields))) (map pure_ty (drop l.i l.tys)) ≡ zip (keys (map pure_field_ex l.fields)) (map pure_ty l.tys)
