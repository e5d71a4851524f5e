-- The items of a list, over all bindings of the generators of a comprehension.
use Rattle.std.specs.Prelude.{◌≡◌, Bool, true, false, List, [], ◌∷◌, ◌++◌, Option, Some, None, option_map}
use Rattle.std.specs.List.{list_any}
use Rattle.ess_semantics.specs.Values.{Text, Value, items_of}
use Rattle.ess_semantics.specs.Trees.{Ex, name_pat}
use Rattle.ess_semantics.specs.Meaning.{Env, meaning, items_under, collect, with_pat}
use Rattle.ess_semantics.specs.Large.{is_large, is_large_under}
use Rattle.eprime_tree.specs.Views.{Item, gens_of}

-- The items at all bindings of the generators and conditions, where each has a value.
abbrev pub items_at : Ex → List Item → Env → Option (List Value)
items_at e gs env = items_under (gens_of gs) env (λ here. option_map (λ v. v ∷ []) (meaning e here))

-- The same where a name takes these values, one after the other.
abbrev pub swept : Ex → Text → List Value → List Item → Env → Option (List Value)
swept e a vs gs env = collect vs (λ v. items_at e gs (with_pat (name_pat a) v env))

-- The items of a list, where it has a value.
abbrev pub items_in : Option Value → Option (List Value)
items_in o = option_map items_of o

-- Whether some number on the way to the items lies outside 64 bits.
abbrev pub large_items : Ex → List Item → Env → Bool
large_items e gs env = is_large_under (gens_of gs) env (λ here. is_large e here)

-- The same where a name takes these values.
abbrev pub large_swept : Ex → Text → List Value → List Item → Env → Bool
large_swept e a vs gs env = list_any (λ v. large_items e gs (with_pat (name_pat a) v env)) vs

-- The list that is there was put behind the old one; false where it isn't there.
abbrev pub Gathered : {A : Type 0} → Bool → List A → List A → Option (List A) → Type 0
Gathered true old new o = option_map (λ xs. old ++ xs) o ≡ Some new
Gathered false old new o = o ≡ None
