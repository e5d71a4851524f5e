-- Worked examples: numbers of lists, and the domains that have relations or partitions as members.
use Rattle.std.specs.Prelude.{◌≡◌, refl, true, false, List, [], ◌∷◌, ℤ, pos, Option, Some, None}
use Rattle.ess_semantics.specs.Values.{Value, truth}
use Rattle.ess_semantics.specs.Domains.{booleans, no_domains, more_domains, sets, relations, partitions}
use Rattle.ess_repr_relations.specs.PartNumbers.{list_number, over_relations}

abbrev yes : Value
yes = truth true

abbrev no : Value
no = truth false

-- ---- numbers of lists

number_of_first : list_number 1 ((yes ∷ []) ∷ (no ∷ []) ∷ []) yes ≡ pos 1
number_of_first = refl

number_of_last : list_number 1 ((yes ∷ []) ∷ (no ∷ []) ∷ []) no ≡ pos 2
number_of_last = refl

-- Where two lists hold it, the first one counts.
number_of_both : list_number 1 ([] ∷ (yes ∷ no ∷ []) ∷ (no ∷ []) ∷ []) no ≡ pos 2
number_of_both = refl

number_of_none : list_number 1 ((yes ∷ []) ∷ [] ∷ []) no ≡ pos 0
number_of_none = refl

no_lists : list_number 1 [] no ≡ pos 0
no_lists = refl

-- ---- domains

of_relations : over_relations (relations [] (more_domains booleans no_domains)) (Some yes) ≡ Some yes
of_relations = refl

of_partitions : over_relations (partitions [] booleans) (Some yes) ≡ Some yes
of_partitions = refl

not_of_sets : over_relations (sets [] booleans) (Some yes) ≡ None
not_of_sets = refl

not_of_atoms : over_relations booleans (Some yes) ≡ None
not_of_atoms = refl
