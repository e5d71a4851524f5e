-- Numbers outside 64 bits.
use Rattle.std.proofs.Common.{◌≡◌, suc, ◌<◌, ◌^◌, Bool, true, false, ℤ, pos, refl, w64, arith, ltb-true}
use Rattle.std.specs.Prelude.{nat_lt, FitsSigned}
use lib.IntN.{negsuc}
use Rattle.ess_semantics.specs.Large.{in_64_bits}

-- What doesn't fit the type is outside.
pub outside : (z : ℤ) → (FitsSigned w64 z → ⊥) → in_64_bits z ≡ false
outside (pos n) h = go (nat_lt n (2 ^ 63)) refl
  where
    go : (b : Bool) → nat_lt n (2 ^ 63) ≡ b → nat_lt n (2 ^ 63) ≡ false
    go true e = absurd (h (record { sfits = ltb-true n (2 ^ 63) e }))
    go false e = e
outside (negsuc n) h = go (nat_lt (suc n) (2 ^ 63)) refl
  where
    go : (b : Bool) → nat_lt (suc n) (2 ^ 63) ≡ b → nat_lt (suc n) (2 ^ 63) ≡ false
    go true e = absurd (h (record { sfits = let l : suc n < 2 ^ 63 = ltb-true (suc n) (2 ^ 63) e in omega arith }))
    go false e = e
