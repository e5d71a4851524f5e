-- Worked examples of what views of sets offer as listings.
use Rattle.std.specs.Prelude.{◌≡◌, refl, [], ◌∷◌, pos, codes, Some, None, Option, List, option_map}
use Rattle.ess_semantics.specs.declared.words.ReprKind.{ReprKind}
use Rattle.ess_semantics.specs.Values.{Text, Value, items_of}
use Rattle.ess_semantics.specs.Trees.{repr, no_reprs, Ex, seen_ex, Dom, no_exs}
use Rattle.ess_semantics.specs.Tables.{row_of}
use Rattle.ess_semantics.specs.Meaning.{Env, empty_env, meaning}
use Rattle.ess_semantics.proofs.Shorthands.{v, upto, from_1, set}
use Rattle.ess_rules_laws.specs.Listings.{Alternative, items_listed}
use Rattle.ess_rules_laws.specs.SetListings.{occurrence_listing}

abbrev pub s : Text
s = codes "s"

-- 1 and 3 occur.
abbrev pub env : Env
env = record empty_env { cells = (s, row_of (pos 1 ∷ pos 2 ∷ pos 3 ∷ []) (pos 1 ∷ pos 0 ∷ pos 1 ∷ [])) ∷ [] }

abbrev pub view : Dom → Ex
view d = seen_ex (repr ReprKind.Occurrence no_reprs) (set d) (s ∷ []) no_exs

-- The items of a listing.
abbrev pub items : Option Alternative → Option (List Value)
items None = None
items (Some a) = items_listed a env

members_that_occur : items (occurrence_listing (codes "x") (view (upto 3))) ≡ Some (v 1 ∷ v 3 ∷ [])
members_that_occur = refl

members_of_the_view : option_map items_of (meaning (view (upto 3)) env) ≡ Some (v 1 ∷ v 3 ∷ [])
members_of_the_view = refl

-- Over `int(1..)` the view has the empty set, and the listing has nothing: so the law asks for members that can be listed.
without_a_list : option_map items_of (meaning (view from_1) env) ≡ Some []
without_a_list = refl

listing_without_a_list : items (occurrence_listing (codes "x") (view from_1)) ≡ None
listing_without_a_list = refl
