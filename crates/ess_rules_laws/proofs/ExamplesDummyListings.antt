-- Worked examples of what views of sets in slots with a dummy offer as listings.
use Rattle.std.specs.Prelude.{◌≡◌, refl, [], ◌∷◌, pos, Some, None, Option, List, option_map}
use Rattle.ess_semantics.specs.declared.words.ReprKind.{ReprKind}
use Rattle.ess_semantics.specs.declared.words.Key.{Key}
use Rattle.ess_semantics.specs.Values.{Value, items_of}
use Rattle.ess_semantics.specs.Trees.{repr, no_reprs, Ex, seen_ex, no_exs}
use Rattle.ess_semantics.specs.Tables.{row_of}
use Rattle.ess_semantics.specs.Meaning.{Env, empty_env, meaning}
use Rattle.ess_semantics.proofs.Shorthands.{n, v, upto, sized}
use Rattle.ess_rules_laws.specs.Listings.{Alternative, items_listed}
use Rattle.ess_rules_laws.specs.DummyListings.{dummy_listing}
use Rattle.ess_rules_laws.proofs.ExamplesLookups.{x}
use Rattle.ess_rules_laws.proofs.ExamplesSetListings.{s}

-- Three slots for members of `int(1..9)`: 5 and 3, and the dummy 10.
abbrev env : Env
env = record empty_env { cells = (s, row_of (pos 1 ∷ pos 2 ∷ pos 3 ∷ []) (pos 5 ∷ pos 3 ∷ pos 10 ∷ [])) ∷ [] }

abbrev view : Ex
view = seen_ex (repr ReprKind.ExplicitVarSizeWithDummy no_reprs) (sized Key.MaxSize 3 (upto 9)) (s ∷ []) no_exs

-- What a listing has.
abbrev items : Option Alternative → Option (List Value)
items None = None
items (Some a) = items_listed a env

its_members : option_map items_of (meaning view env) ≡ Some (v 3 ∷ v 5 ∷ [])
its_members = refl

-- The listing has them as the slots stand.
two_slots : items (dummy_listing x (n 3) (n 10) view) ≡ Some (v 5 ∷ v 3 ∷ [])
two_slots = refl

-- With another dummy it has the wrong ones.
another_dummy : items (dummy_listing x (n 3) (n 3) view) ≡ Some (v 5 ∷ v 10 ∷ [])
another_dummy = refl
