-- Texts that are cut at a byte.
use Rattle.std.specs.Prelude.{ℕ, suc, List, [], ◌∷◌, if◌then◌else◌, ◌==◌, Option, Some, None}
use Rattle.ess_semantics.specs.Values.{Text}

-- How many bytes stand before the first that is c.
abbrev pub run_to : ℕ → Text → ℕ
run_to c [] = 0
run_to c (b ∷ text) = if b == c then 0 else suc (run_to c text)

-- A byte before the first of two parts.
abbrev pub onto_front : ℕ → Text × Option Text → Text × Option Text
onto_front b p = (b ∷ p.0, p.1)

-- What stands before the first byte c, and what stands behind it, where there is one.
abbrev pub cut : ℕ → Text → Text × Option Text
cut c [] = ([], None)
cut c (b ∷ text) = if b == c then ([], Some text) else onto_front b (cut c text)

-- A byte before the first piece.
abbrev pub onto_first : ℕ → List Text → List Text
onto_first b [] = (b ∷ []) ∷ []
onto_first b (p ∷ ps) = (b ∷ p) ∷ ps

-- The pieces of a text: what stands before, between and behind its bytes c.
abbrev pub pieces : ℕ → Text → List Text
pieces c [] = [] ∷ []
pieces c (b ∷ text) = if b == c then [] ∷ pieces c text else onto_first b (pieces c text)
