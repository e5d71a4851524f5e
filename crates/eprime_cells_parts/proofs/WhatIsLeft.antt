-- What is left of a list behind the first items.
use Rattle.std.proofs.Common.{◌≡◌, refl, sym, ap, ◌∙◌, ℕ, ◌+◌, ◌<◌, ◌≤◌, List, [], ◌∷◌, length, get_or, drop, arith, length-drop}
use Rattle.std.proofs.lemmas.List.{drop_more}

-- The next item and the rest,
pub left-more : {A : Type 0} → (xs : List A) (i : ℕ) (x : A) → i < length xs → x ≡ get_or xs i x → drop i xs ≡ x ∷ drop (i + 1) xs
left-more xs i x lt is = drop_more xs i x lt ∙ ap (λ y. y ∷ drop (i + 1) xs) (sym is)

-- or nothing.
pub left-none : {A : Type 0} → (xs : List A) (i : ℕ) → length xs ≤ i → drop i xs ≡ []
left-none {A = A} xs i h = none (drop i xs) (omega (arith, length-drop i xs))
  where
    none : (ys : List A) → length ys ≡ 0 → ys ≡ []
    none [] k = refl
    none (y ∷ ys) k = absurd (omega arith)
