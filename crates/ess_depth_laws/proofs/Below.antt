-- The reserved names that are taken are as many as there are numbers, and the others are none of them.
use Rattle.std.proofs.Common.{◌≡◌, refl, ap, ◌∙◌, subst, ℕ, zero, suc, ◌≤◌, ◌<◌, ◌^◌, Bool, true, false, ◌||◌, length, arith}
use Rattle.ess_semantics.specs.Values.{Text}
use Rattle.ess_semantics.specs.Order.{same_text}
use Rattle.ess_semantics.specs.Trees.{Ex}
use Rattle.ess_semantics.specs.Scoped.{Scoped}
use Rattle.ess_semantics.proofs.Texts.{same_text-either}
use Rattle.conjure_model_laws.specs.ToldApart.{reserved}
use Rattle.conjure_model_laws.proofs.ToldLaws.{reserved-differ}
use Rattle.ess_depth_laws.specs.Depth.{NestsWithin}
use Rattle.ess_depth_laws.specs.Below.{reserved_below, is_below, HasNamesBelow}
use Rattle.ess_depth_laws.proofs.ByNames.{within-names}

both-false : (b c : Bool) → b ≡ false → c ≡ false → b || c ≡ false
both-false true c h k = cc
both-false false c h k = k

-- A reserved name from the n-th on is none of those below.
pub below-spared : (n j : ℕ) → n ≤ j → j < 2 ^ 64 → is_below n (reserved j) ≡ false
below-spared zero j l m = refl
below-spared (suc n) j l m =
    both-false (same_text (reserved n) (reserved j)) (is_below n (reserved j))
    (same_text-either (reserved n) (reserved j) ∙ reserved-differ n j (omega (arith, l)) m) (below-spared n j (omega (arith, l)) m)

-- Below the n-th there are n.
pub so-many-below : (n : ℕ) → length (reserved_below n) ≡ n
so-many-below zero = refl
so-many-below (suc n) = ap suc (so-many-below n)

-- A tree of reserved names below the n-th binds no more than n around a place.
pub within-reserved : (n : ℕ) (z s o : Text → Bool) (e : Ex) → Scoped z s o e → HasNamesBelow n e → NestsWithin n e
within-reserved n z s o e h m =
    subst (λ k. NestsWithin k e) (so-many-below n) (within-names (reserved_below n) z s o (is_below n) e h m)
