use Rattle.std.proofs.Common.{◌≡◌, map, drop}
use Rattle.ess_core.specs.TypeViews.{pure_ty, pure_field_ty}
use Rattle.ess_types_operators.specs.Paired.{paired, ty_join, field_join}
use Rattle.ess_types_operators.proofs.Ahead.{ahead}
use Rattle.ess_types_operators.proofs.joining.+join.Given as goal

abbrev pub invariant-join_each-loop-i : goal.invariant-join_each-loop-i
invariant-join_each-loop-i l = ahead (map pure_ty l.joined) (paired ty_join (drop l.i l.xs) (drop l.i l.ys)) ≡ paired ty_join l.xs l.ys

abbrev pub invariant-join_fields-loop-i : goal.invariant-join_fields-loop-i
invariant-join_fields-loop-i l = ahead (map pure_field_ty l.joined) (paired field_join (drop l.i l.xs) (drop l.i l.ys)) ≡ paired field_join l.xs l.ys
