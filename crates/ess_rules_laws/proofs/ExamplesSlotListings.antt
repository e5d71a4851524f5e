-- Worked examples of what views of sets kept in slots offer as listings.
use Rattle.std.specs.Prelude.{◌≡◌, refl, [], ◌∷◌, pos, Some, None, Option, List, option_map}
use Rattle.ess_semantics.specs.declared.words.ReprKind.{ReprKind}
use Rattle.ess_semantics.specs.declared.words.Key.{Key}
use Rattle.ess_semantics.specs.Values.{Value, items_of}
use Rattle.ess_semantics.specs.Trees.{Repr, repr, no_reprs, more_reprs, Ex, seen_ex, no_exs}
use Rattle.ess_semantics.specs.Tables.{one_cell, row_of}
use Rattle.ess_semantics.specs.Meaning.{Env, empty_env, meaning}
use Rattle.ess_semantics.proofs.Shorthands.{n, v, upto, sized}
use Rattle.ess_rules_laws.specs.Listings.{Alternative, items_listed}
use Rattle.ess_rules_laws.specs.SlotListings.{explicit_listing, flags_listing, marker_listing}
use Rattle.ess_rules_laws.proofs.ExamplesLookups.{x, f}
use Rattle.ess_rules_laws.proofs.ExamplesSetListings.{s}

abbrev atoms : Repr
atoms = repr ReprKind.Atom no_reprs

-- What a listing has under tables.
abbrev items : Env → Option Alternative → Option (List Value)
items here None = None
items here (Some a) = items_listed a here

-- ---- two slots, with 5 and 3

abbrev two : Env
two = record empty_env { cells = (s, row_of (pos 1 ∷ pos 2 ∷ []) (pos 5 ∷ pos 3 ∷ [])) ∷ [] }

abbrev pair_view : Ex
pair_view = seen_ex (repr ReprKind.Explicit (more_reprs atoms no_reprs)) (sized Key.Size 2 (upto 9)) (s ∷ []) no_exs

-- The set has its members in order, the listing as the slots stand.
both_members : option_map items_of (meaning pair_view two) ≡ Some (v 3 ∷ v 5 ∷ [])
both_members = refl

both_slots : items two (explicit_listing x (n 2) pair_view) ≡ Some (v 5 ∷ v 3 ∷ [])
both_slots = refl

-- With another number of slots it doesn't list them.
first_slot : items two (explicit_listing x (n 1) pair_view) ≡ Some (v 5 ∷ [])
first_slot = refl

third_slot : items two (explicit_listing x (n 3) pair_view) ≡ None
third_slot = refl

-- ---- three slots, of which two are in use

abbrev three : Env
three = record empty_env {
  cells = (s, row_of (pos 1 ∷ pos 2 ∷ pos 3 ∷ []) (pos 5 ∷ pos 3 ∷ pos 0 ∷ [])) ∷
      (f, row_of (pos 1 ∷ pos 2 ∷ pos 3 ∷ []) (pos 1 ∷ pos 1 ∷ pos 0 ∷ [])) ∷ [];
}

abbrev flags_view : Ex
flags_view = seen_ex (repr ReprKind.ExplicitVarSizeWithFlags (more_reprs atoms no_reprs)) (sized Key.MaxSize 3 (upto 9)) (f ∷ s ∷ []) no_exs

flagged_members : option_map items_of (meaning flags_view three) ≡ Some (v 3 ∷ v 5 ∷ [])
flagged_members = refl

flagged_slots : items three (flags_listing x (n 3) flags_view) ≡ Some (v 5 ∷ v 3 ∷ [])
flagged_slots = refl

-- ---- the same slots up to a marker

abbrev marked : Env
marked = record empty_env { cells = (s, row_of (pos 1 ∷ pos 2 ∷ pos 3 ∷ []) (pos 5 ∷ pos 3 ∷ pos 0 ∷ [])) ∷ (f, one_cell (pos 2)) ∷ [] }

abbrev marker_view : Ex
marker_view = seen_ex (repr ReprKind.ExplicitVarSizeWithMarker (more_reprs atoms no_reprs)) (sized Key.MaxSize 3 (upto 9)) (f ∷ s ∷ [])
    no_exs

marked_members : option_map items_of (meaning marker_view marked) ≡ Some (v 3 ∷ v 5 ∷ [])
marked_members = refl

marked_slots : items marked (marker_listing x (n 3) marker_view) ≡ Some (v 5 ∷ v 3 ∷ [])
marked_slots = refl
