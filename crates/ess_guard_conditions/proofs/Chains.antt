-- That all conditions hold, built from the last one.
use Rattle.std.proofs.Common.{◌≡◌, refl, ap, List, [], ◌∷◌, ◌++◌, map}
use Rattle.ess_semantics.specs.Trees.{Ex, cond}
use Rattle.ess_core.specs.TreeViews.{cond_item, gens_of}
use Rattle.ess_guard_laws.specs.Conditions.{conds, chained, all_of}
use Rattle.ess_guard_conditions.specs.ConditionForms.{under_each}

-- The last condition, each before it asked first.
pub all_last : (cs : List Ex) (e : Ex) → all_of (cs ++ e ∷ []) ≡ under_each cs e
all_last [] e = refl
all_last (c ∷ []) e = refl
all_last (c ∷ d ∷ cs) e = ap (chained (c ∷ [])) (all_last (d ∷ cs) e)

-- One condition more, asked last.
pub under_last : (cs : List Ex) (c e : Ex) → under_each (cs ++ c ∷ []) e ≡ under_each cs (chained (c ∷ []) e)
under_last [] c e = refl
under_last (d ∷ cs) c e = ap (chained (d ∷ [])) (under_last cs c e)

-- Conditions as generators.
pub conds_items : (cs : List Ex) → gens_of (map (λ c. cond_item c) cs) ≡ conds cs
conds_items [] = refl
conds_items (c ∷ cs) = ap (cond c) (conds_items cs)
