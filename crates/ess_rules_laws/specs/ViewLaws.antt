-- What each container offers: the laws of the listings and lookups of views and of literals.
use Rattle.std.specs.Prelude.{◌≡◌, [], ◌∷◌, ℕ, List, Some, IsTrue, is_some}
use Rattle.ess_semantics.specs.Values.{Text}
use Rattle.ess_semantics.specs.Trees.{Ex}
use Rattle.ess_semantics.specs.Meaning.{Env, meaning}
use Rattle.ess_semantics.specs.Meets.{Meets}
use Rattle.ess_semantics.specs.Kept.{Keeps}
use Rattle.ess_rules_laws.specs.Listings.{Alternative}
use Rattle.ess_rules_laws.specs.ListedSources.{Offers, OffersInOrder}
use Rattle.ess_rules_laws.specs.Rules.{Unused, RuleKeeps}
use Rattle.ess_rules_laws.specs.SetListings.{InOrderWhereMet}
use Rattle.ess_rules_laws.specs.SlotListings.{SlotsAre, OffersWhereMet}
use Rattle.ess_rules_laws.specs.DummyListings.{dummy_listing, DummyIs}
use Rattle.ess_rules_laws.specs.Lookups.{Looked}
use Rattle.ess_rules_laws.specs.FunctionLookups.{unmarked}
use Rattle.ess_rules_laws.specs.IndexSteps.{step_apart}
use Rattle.ess_rules_laws.specs.AlternativeLookups.{LookedBy, list_lookup, function_literal_lookup, FirstOperandThere, select_each, select_whole_each, SelectsEach, SelectsWholeEach, members_of_each, as_alternative, lookup_through_each, LooksThroughEach}
use Rattle.ess_rules_laws.specs.FunctionViews.{FirstThere, AppliedThere, NamesUnused}
use Rattle.ess_rules_laws.specs.FunctionKeys.{result_at_argument, defined_everywhere, defined_where_flagged, lookup_behind_flag, ArgumentHeld, DefinedHeld, ArgumentTold, DefinedTold}
use Rattle.ess_rules_laws.specs.SetSizes.{size_by_marker, size_by_slots, SizeOf}
use Rattle.ess_rules_laws.specs.AtomViews.{atom_cell, AtomCounts}
use Rattle.ess_rules_laws.specs.OccurrenceViews.{relation_matrix_listing, TuplesThere, member_by_cell, MemberTold}
use Rattle.ess_rules_laws.specs.Function1DViews.{function_1d_listing, function_1d_lookup}
use Rattle.ess_rules_laws.specs.Function1DPartialViews.{function_1d_partial_listing, function_1d_partial_lookup}
use Rattle.ess_rules_laws.specs.FunctionNDViews.{function_nd_listing, function_nd_lookup}
use Rattle.ess_rules_laws.specs.FunctionNDPartialViews.{function_nd_partial_listing, function_nd_partial_lookup}

-- ---- indices

-- An index of several steps keeps its meaning as one of its first step with an index of the others, whatever the operands are.
abbrev pub StepsComeApart : Type 0
StepsComeApart = RuleKeeps step_apart

-- ---- sets

-- A view of a set in slots with a dummy offers the atoms in its slots that don't hold the dummy, where one expression says how
-- many slots there are and another one what the dummy is.
abbrev pub DummyViewsAreListed : Type 0
DummyViewsAreListed = (x : Text) (n m e : Ex) (env : Env) → Unused x e → Unused x m → Meets e env → SlotsAre n e env → DummyIs m e env →
    OffersWhereMet (dummy_listing x n m e) e env

-- The size of a view of a set with a marker keeps its meaning as the marker, and that of one in slots all in use as the expression
-- that says how many slots there are.
pub record SizesOfSetsServe : Type 0 where
  pub of_a_marker : (e f : Ex) → size_by_marker e ≡ Some f → (env : Env) → Keeps e f env
  pub of_slots_all_in_use : (n e f : Ex) → size_by_slots n e ≡ Some f → (env : Env) → SizeOf n e env → Keeps e f env

-- ---- atoms, and what is kept as a truth value for each possible member

-- A view of an atom keeps its meaning as its cell. A term that its number tells from all other possible members is a member of a
-- set or relation that is kept as a truth value for each of them where the cell there is true; such a relation offers its tuples, in
-- order.
pub record CellsServe : Type 0 where
  pub an_atom_is_its_cell : (e f : Ex) → atom_cell e ≡ Some f → (env : Env) → AtomCounts e env → Keeps e f env
  pub a_cell_says_member : (e f : Ex) → member_by_cell e ≡ Some f → (env : Env) → MemberTold e env → Keeps e f env
  pub tuples_are_listed : (xs : List Text) (e : Ex) (env : Env) → NamesUnused xs e → Meets e env → TuplesThere e env →
      InOrderWhereMet (relation_matrix_listing xs e) e env

-- ---- functions

-- A view of a function kept by argument offers its pairs, in the order of the function: of a total one and one with flags, from an
-- atom and from a tuple of atoms.
pub record FunctionViewsAreListed : Type 0 where
  pub total_from_an_atom : (x : Text) (e : Ex) (env : Env) → Unused x e → Meets e env → FirstThere e env →
      InOrderWhereMet (function_1d_listing x e) e env
  pub flagged_from_an_atom : (x : Text) (e : Ex) (env : Env) → Unused x e → Meets e env → FirstThere e env →
      InOrderWhereMet (function_1d_partial_listing x e) e env
  pub total_from_a_tuple : (xs : List Text) (e : Ex) (env : Env) → NamesUnused xs e → Meets e env → FirstThere e env →
      InOrderWhereMet (function_nd_listing xs e) e env
  pub flagged_from_a_tuple : (xs : List Text) (e : Ex) (env : Env) → NamesUnused xs e → Meets e env → FirstThere e env →
      InOrderWhereMet (function_nd_partial_listing xs e) e env

-- And it is looked up: the lookup has the result at the argument, or no item where there is none.
pub record FunctionViewsAreLookedUp : Type 0 where
  pub total_from_an_atom : (x : Text) (e l : Ex) → function_1d_lookup x e ≡ Some l → Unused x e → (env : Env) → Meets e env →
      AppliedThere e env → Looked (unmarked e) l env
  pub flagged_from_an_atom : (x : Text) (e l : Ex) → function_1d_partial_lookup x e ≡ Some l → Unused x e → (env : Env) → Meets e env →
      AppliedThere e env → Looked (unmarked e) l env
  pub total_from_a_tuple : (xs : List Text) (e l : Ex) → function_nd_lookup xs e ≡ Some l → NamesUnused xs e → (env : Env) →
      Meets e env → AppliedThere e env → Looked (unmarked e) l env
  pub flagged_from_a_tuple : (xs : List Text) (e l : Ex) → function_nd_partial_lookup xs e ≡ Some l → NamesUnused xs e → (env : Env) →
      Meets e env → AppliedThere e env → Looked (unmarked e) l env

-- Shorter forms, where the value of the argument is an index: of a total function the result at a member of the first domain is the
-- view there, and each member is an argument; of one with flags a term that its number tells from all other members is an argument
-- where the flag there is true, and the view behind the flag looks the result up.
pub record FunctionKeysServe : Type 0 where
  pub a_result_is_the_view : (e f : Ex) → result_at_argument e ≡ Some f → (env : Env) → ArgumentHeld e env → Keeps e f env
  pub each_member_is_an_argument : (e f : Ex) → defined_everywhere e ≡ Some f → (env : Env) → DefinedHeld e env → Keeps e f env
  pub a_flag_says_so : (e f : Ex) → defined_where_flagged e ≡ Some f → (env : Env) → DefinedTold e env → Keeps e f env
  pub behind_a_flag : (e l : Ex) → lookup_behind_flag e ≡ Some l → (env : Env) → ArgumentTold e env → Meets e env →
      Looked (unmarked e) l env

-- ---- lookups by alternatives

-- The item of a list literal at an index and the result of a function literal at an argument are looked up by cases, where the
-- literal has a value.
pub record LiteralsAreLookedUp : Type 0 where
  pub of_lists : (e : Ex) (l : List Alternative) → list_lookup e ≡ Some l → (env : Env) → FirstOperandThere e env → Meets e env →
      LookedBy (unmarked e) l env
  pub of_functions : (e : Ex) (l : List Alternative) → function_literal_lookup e ≡ Some l → (env : Env) → FirstOperandThere e env →
      Meets e env → LookedBy (unmarked e) l env

-- What alternatives that look a term up are good for: an operator on the term, and a scalar by itself, keep their meaning as `or`
-- or `sum` over the alternatives; what any operator but a connective makes of the term is looked up by them; the members of a
-- container that has a value are offered by them. A lookup is the one alternative, and a listing in order is a listing.
pub record AlternativesServe : Type 0 where
  pub an_operand_is_selected : (x : Text) (k : ℕ) (l : List Alternative) (e f : Ex) → select_each x k l e ≡ Some f → Unused x e →
      (env : Env) → SelectsEach k l e env → Keeps e f env
  pub the_whole_is_selected : (x : Text) (l : List Alternative) (e f : Ex) → select_whole_each x l e ≡ Some f → (env : Env) →
      SelectsWholeEach l e env → Keeps e f env
  pub through_an_operand : (x : Text) (k : ℕ) (l : List Alternative) (e : Ex) (m : List Alternative) →
      lookup_through_each x k l e ≡ Some m →
      Unused x e → (env : Env) → LooksThroughEach k l e env → Meets e env → LookedBy (unmarked e) m env
  pub members_are_offered : (y x : Text) (t : Ex) (l : List Alternative) (env : Env) → LookedBy t l env → IsTrue (is_some (meaning t env)) →
      Offers t (members_of_each y x l) env
  pub a_lookup_is_one : (x : Text) (t l : Ex) (env : Env) → Looked t l env → LookedBy t (as_alternative x l) env
  pub in_order_is_offered : (s : Ex) (a : Alternative) (env : Env) → OffersInOrder s a env → Offers s (a ∷ []) env
