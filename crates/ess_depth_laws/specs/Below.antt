-- The reserved names that are taken so far.
use Rattle.std.specs.Prelude.{ℕ, zero, suc, Bool, List, [], ◌∷◌}
use Rattle.ess_semantics.specs.Values.{Text}
use Rattle.ess_semantics.specs.Names.{is_among}
use Rattle.ess_semantics.specs.Trees.{Ex}
use Rattle.ess_semantics.specs.Substitution.{NamesAre}
use Rattle.conjure_model_laws.specs.ToldApart.{reserved}

-- The reserved names below the n-th, the last one first.
abbrev pub reserved_below : ℕ → List Text
reserved_below zero = []
reserved_below (suc n) = reserved n ∷ reserved_below n

-- Whether the name is one of them.
abbrev pub is_below : ℕ → Text → Bool
is_below n a = is_among (reserved_below n) a

-- The tree uses and binds no other names.
abbrev pub HasNamesBelow : ℕ → Ex → Type 0
HasNamesBelow n e = NamesAre (is_below n) (is_below n) e
