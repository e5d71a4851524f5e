-- What a view of a set offers has values where the view has: each part of it has one wherever its context holds, but for numbers in natural
-- places.
use Rattle.std.specs.Prelude.{◌≡◌, Bool, false, Option, Some, None}
use Rattle.ess_semantics.specs.Values.{Text}
use Rattle.ess_semantics.specs.Trees.{Ex}
use Rattle.ess_semantics.specs.Meaning.{Env, meaning}
use Rattle.ess_rules_laws.specs.Rules.{Unused}
use Rattle.ess_rules_laws.specs.Listings.{Alternative}
use Rattle.ess_rules_laws.specs.SetListings.{occurrence_listing}
use Rattle.ess_rules_laws.specs.SlotListings.{explicit_listing, marker_listing, flags_listing, OffersWhereMet}
use Rattle.ess_rules_laws.specs.DummyListings.{dummy_listing}
use Rattle.ess_rules_laws.specs.OccurrenceViews.{member_by_cell}
use Rattle.ess_rules_laws.specs.AtomViews.{atom_cell}
use Rattle.ess_rules_laws.specs.SetSizes.{size_by_marker, size_by_slots}
use Rattle.ess_values_along_laws.specs.Valued.{Valued}
use Rattle.ess_values_sources_laws.specs.ListedValues.{Under}

-- The alternative has values, where there is one.
abbrev pub OfferedUnder : Option Alternative → Env → Type 0
OfferedUnder None env = Unit {0}
OfferedUnder (Some a) env = Under a env

-- The listing of a view of a set of each kind, where the view has values and offers it; n says how many slots there are, m what the dummy
-- is. `a in v` as the cell of a, a view of an atom as its cell, and `|v|` as the marker or the number of slots.
pub record SetViewsKeepValues : Type 0 where
  pub of_occurrences : (x : Text) (e : Ex) (env : Env) → Unused x e → Valued false e env → OfferedUnder (occurrence_listing x e) env
  pub of_slots_all_in_use : (x : Text) (n e : Ex) (env : Env) → Unused x e → Valued false n env → Valued false e env →
      OffersWhereMet (explicit_listing x n e) e env → OfferedUnder (explicit_listing x n e) env
  pub of_slots_up_to_a_marker : (x : Text) (n e : Ex) (env : Env) → Unused x e → Valued false n env → Valued false e env →
      OffersWhereMet (marker_listing x n e) e env → OfferedUnder (marker_listing x n e) env
  pub of_slots_with_flags : (x : Text) (n e : Ex) (env : Env) → Unused x e → Valued false n env → Valued false e env →
      OffersWhereMet (flags_listing x n e) e env → OfferedUnder (flags_listing x n e) env
  pub of_slots_with_a_dummy : (x : Text) (n m e : Ex) (env : Env) → Unused x e → Unused x m → Valued false n env → Valued false m env →
      Valued false e env → OffersWhereMet (dummy_listing x n m e) e env → OfferedUnder (dummy_listing x n m e) env
  pub members_by_cells : (e f : Ex) → member_by_cell e ≡ Some f → (env : Env) (w : Bool) → Valued w e env → Valued w f env
  pub atoms_by_cells : (e f : Ex) → atom_cell e ≡ Some f → (env : Env) → meaning e env ≡ meaning f env → (w : Bool) → Valued w e env →
      Valued w f env
  pub sizes_by_markers : (e f : Ex) → size_by_marker e ≡ Some f → (env : Env) → meaning e env ≡ meaning f env → (w : Bool) →
      Valued w e env → Valued w f env
  pub sizes_by_slots : (n e f : Ex) → size_by_slots n e ≡ Some f → (env : Env) → Valued false n env → (w : Bool) → Valued w f env
