use Rattle.std.proofs.Common.{◌≡◌, drop}
use Rattle.std.specs.Prelude.{is_some}
use Rattle.ess_types_operators.specs.Paired.{paired, ty_join, field_join}
use Rattle.ess_types_operators.proofs.agreeing.+agree.Given as goal

abbrev pub invariant-agree_all-loop-i : goal.invariant-agree_all-loop-i
invariant-agree_all-loop-i l = is_some (paired ty_join l.xs l.ys) ≡ is_some (paired ty_join (drop l.i l.xs) (drop l.i l.ys))

abbrev pub invariant-fields_agree-loop-i : goal.invariant-fields_agree-loop-i
invariant-fields_agree-loop-i l = is_some (paired field_join l.xs l.ys) ≡ is_some (paired field_join (drop l.i l.xs) (drop l.i l.ys))
