-- Numerals beside 0.
use Rattle.std.proofs.Common.{◌≡◌, refl, not, zero, suc, ℤ, pos, negsuc, int_lt, int_eq, false, true, arith}
use Rattle.std.proofs.lemmas.Int.{ints}
use Rattle.ess_semantics.specs.Trees.{number_ex}
use Rattle.ess_refine_laws.specs.Everywhere.{is_nonzero, is_positive}

-- One that isn't equal to 0 is another one.
pub other_than_zero : (n : ℤ) → not (int_eq n (pos 0)) ≡ is_nonzero (number_ex n)
other_than_zero (pos zero) = refl
other_than_zero (pos (suc n)) = let differs : int_eq (pos (suc n)) (pos 0) ≡ false = grind (arith, ints) in rw differs refl
other_than_zero (negsuc n) = refl

-- One that 0 is below is above it.
pub above_zero : (n : ℤ) → int_lt (pos 0) n ≡ is_positive (number_ex n)
above_zero (pos zero) = refl
above_zero (pos (suc n)) = let above : int_lt (pos 0) (pos (suc n)) ≡ true = grind (arith, ints) in above
above_zero (negsuc n) = refl
