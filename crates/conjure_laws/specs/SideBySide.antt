-- Lists side by side.
use Rattle.std.specs.Prelude.{List, [], ◌∷◌}

-- R of the items side by side, of lists of one length.
abbrev pub Along : {A B : Type 0} → List A → List B → (A → B → Type 0) → Type 0
Along [] [] R = Unit {0}
Along (x ∷ xs) (y ∷ ys) R = R x y × Along xs ys R
Along _ _ R = ⊥
