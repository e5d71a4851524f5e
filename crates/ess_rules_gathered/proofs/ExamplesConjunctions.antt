-- Worked examples of conjunctions.
use Rattle.std.specs.Prelude.{◌≡◌, refl, true, false, [], ◌∷◌, codes, Some, None}
use Rattle.ess_semantics.specs.declared.words.Op2.{Op2}
use Rattle.ess_semantics.specs.Trees.{Ex, cell_ex, no_exs, ex2}
use Rattle.ess_rules_gathered.specs.Conjunctions.{conjunction_of}

abbrev b : Ex
b = cell_ex true (codes "b") no_exs

-- Of one condition it is that condition, of several `b /\ (b /\ b)`.
conjunctions : (conjunction_of [] ≡ None) × (conjunction_of (b ∷ []) ≡ Some (b, false))
    × (conjunction_of (b ∷ b ∷ b ∷ []) ≡ Some (ex2 true Op2.And b (ex2 true Op2.And b b), true))
conjunctions = (refl, refl, refl)
