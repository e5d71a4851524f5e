-- When two names are equal.
use Rattle.std.proofs.Common.{◌≡◌, refl, sym, ap, ◌∙◌, subst, Bool, true, false}
use Rattle.std.specs.Ordering.{is_eq}
use Rattle.std.specs.Str.{bytes_eq}
use Rattle.std.proofs.lemmas.Map.Text.{is_eq-slice_cmp}
use Rattle.std.proofs.lemmas.Cmp.{tied_itself}
use Rattle.ess_semantics.specs.Values.{Text}
use Rattle.ess_semantics.specs.Order.{same_text, order_text}
use Rattle.ess_semantics.proofs.Orders.{text_exact, text_total, equal-of}

-- The test says that they are equal.
pub same_text-equal : (a b : Text) → same_text a b ≡ true → a ≡ b
same_text-equal a b e = text_exact a b (equal-of (order_text a b) e)

-- It holds of a name and itself.
pub same_text-itself : (a : Text) → same_text a a ≡ true
same_text-itself a = ap is_eq (tied_itself text_total a)

-- It may be asked from either side.
pub same_text-turned : (a b : Text) → same_text a b ≡ true → same_text b a ≡ true
same_text-turned a b e = subst (λ c. same_text c a ≡ true) (same_text-equal a b e) (same_text-itself a)

-- Both ways it has one answer.
pub same_text-either : (a b : Text) → same_text a b ≡ same_text b a
same_text-either a b = go (same_text a b) (same_text b a) refl refl
  where
    go : (p q : Bool) → same_text a b ≡ p → same_text b a ≡ q → p ≡ q
    go true q e f = sym (same_text-turned a b e) ∙ f
    go false true e f = sym e ∙ same_text-turned b a f
    go false false e f = refl

-- It is the comparison byte by byte.
pub same_text-bytes : (a b : Text) → same_text a b ≡ bytes_eq a b
same_text-bytes a b = is_eq-slice_cmp a b
