-- Numbers beside 0.
use Rattle.std.proofs.Common.{◌≡◌, refl, ap, arith, not, true, false, zero, suc, ℤ, pos, negsuc}
use Rattle.std.proofs.lemmas.Int.{ints}
use Rattle.std.specs.Prelude.{int_lt}
use Rattle.std.specs.Ordering.{int_eq}
use Rattle.ess_semantics.specs.Trees.{number_ex}
use Rattle.ess_guard_laws.specs.Conditions.{is_not_zero, is_above_zero}

-- One that isn't equal to 0 is another one.
pub other_than_zero : (n : ℤ) → not (int_eq n (pos 0)) ≡ is_not_zero (number_ex n)
other_than_zero (pos zero) = refl
other_than_zero (pos (suc n)) = let e : int_eq (pos (suc n)) (pos 0) ≡ false = grind (arith, ints) in ap not e
other_than_zero (negsuc n) = refl

-- One that 0 is below is above it.
pub more_than_zero : (n : ℤ) → int_lt (pos 0) n ≡ is_above_zero (number_ex n)
more_than_zero (pos zero) = refl
more_than_zero (pos (suc n)) = let e : int_lt (pos 0) (pos (suc n)) ≡ true = grind (arith, ints) in e
more_than_zero (negsuc n) = refl
