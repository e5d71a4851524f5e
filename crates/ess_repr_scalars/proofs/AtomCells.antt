-- The only number of a table.
use Rattle.std.proofs.Common.{◌≡◌, refl, sym, ap, ◌∙◌, ℕ, List, [], ◌∷◌, length, get_or, ℤ, Option, Some, None}
use Rattle.ess_semantics.specs.Lists.{and_then, only_of}
use Rattle.ess_semantics.specs.Values.{Value}

-- A list of one item.
only-one : (xs : List ℤ) (x e : ℤ) → length xs ≡ 1 → x ≡ get_or xs 0 e → only_of xs ≡ Some x
only-one [] x e h is = cc
only-one (y ∷ []) x e h is = ap Some (sym is)
only-one (y ∷ z ∷ xs) x e h is = cc

not-one : (xs : List ℤ) → (length xs ≡ 1 → ⊥) → only_of xs ≡ None
not-one [] h = refl
not-one (y ∷ []) h = absurd (h refl)
not-one (y ∷ z ∷ xs) h = refl

pub only_there : (xs : List ℤ) (x e : ℤ) (f : ℤ → Option Value) (o : Option Value) → length xs ≡ 1 → x ≡ get_or xs 0 e → o ≡ f x → o ≡ and_then (only_of xs) f
only_there xs x e f o h is p = p ∙ sym (ap (λ q. and_then q f) (only-one xs x e h is))

pub only_not : (xs : List ℤ) (f : ℤ → Option Value) → (length xs ≡ 1 → ⊥) → None ≡ and_then (only_of xs) f
only_not xs f h = sym (ap (λ q. and_then q f) (not-one xs h))
