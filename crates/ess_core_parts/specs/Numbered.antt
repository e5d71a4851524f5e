-- Trees whose parts are numbered from 0, from left to right.
use Rattle.std.specs.Prelude.{ℕ, ◌-◌, List, [], ◌∷◌, ◌++◌, length, map, Option, Some, None, Result, Ok, Err, nat_lt, zero, suc, slice_get, if◌then◌else◌}
use Rattle.ess_core.specs.declared.expressions.Ex.{Ex}

-- The parts of a tree, from left to right, and the tree with another part in place of the one of a number. A number past
-- the parts changes nothing.
pub record Parted (A : Type 0) : Type 0 where
  pub parts : List Ex
  pub put : ℕ → Ex → A

-- A tree without parts.
abbrev pub bare : {A : Type 0} → A → Parted A
bare a = record { parts = []; put = λ k w. a }

-- What stands at the one part, the number 0, after w was put at a number.
abbrev pub instead : ℕ → Ex → Ex → Ex
instead zero w e = w
instead (suc k) w e = e

-- An expression is the one part of itself.
abbrev pub itself : Ex → Parted Ex
itself e = record { parts = e ∷ []; put = λ k w. instead k w e }

-- The same parts in a tree that is made of this one.
abbrev pub made : {A B : Type 0} → (A → B) → Parted A → Parted B
made f p = record { parts = p.parts; put = λ k w. f (p.put k w) }

-- Two trees beside each other: the parts of the second are counted on behind those of the first.
abbrev pub beside : {A B : Type 0} → Parted A → B → Parted B → Parted (A × B)
beside p b q = record {
  parts = p.parts ++ q.parts;
  put = λ k w. (p.put k w, if nat_lt k (length p.parts) then b else q.put (k - length p.parts) w);
}

-- A tree of two.
abbrev pub both : {A B C : Type 0} → (A → B → C) → Parted A → B → Parted B → Parted C
both f p b q = made (λ x. f x.0 x.1) (beside p b q)

-- Trees in a row.
abbrev pub row : {A : Type 0} → (A → Parted A) → List A → Parted (List A)
row split [] = bare []
row split (x ∷ xs) = both (λ y ys. y ∷ ys) (split x) xs (row split xs)

-- The same, where each tree stands beside its parts already.
abbrev pub held_row : {A : Type 0} → List (A × Parted A) → Parted (List A)
held_row [] = bare []
held_row (x ∷ xs) = let rest = map (λ y. y.0) xs in both (λ y ys. y ∷ ys) x.1 rest (held_row xs)

-- A tree that may be missing.
abbrev pub maybe : {A : Type 0} → (A → Parted A) → Option A → Parted (Option A)
maybe split None = bare None
maybe split (Some x) = made (λ y. Some y) (split x)

-- What a search for a part answers: the part, or how far the number is past the parts, and what was to be put there.
abbrev pub found_or : Option Ex → ℕ → Ex → Result Ex (ℕ × Ex)
found_or None n w = Err (n, w)
found_or (Some e) n w = Ok e

abbrev pub found : List Ex → ℕ → Ex → Result Ex (ℕ × Ex)
found es k w = found_or (slice_get es k) (k - length es) w
