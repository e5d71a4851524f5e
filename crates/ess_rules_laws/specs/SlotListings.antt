-- What views of sets kept in slots offer as listings, a kind at a time: a number runs over the slots, and the item is the view
-- in the slot.
use Rattle.std.specs.Prelude.{◌≡◌, true, false, [], ◌∷◌, List, Option, Some, None, pos}
use Rattle.ess_semantics.specs.declared.words.Op2.{Op2}
use Rattle.ess_semantics.specs.declared.words.ReprKind.{ReprKind}
use Rattle.ess_semantics.specs.Values.{Text, number}
use Rattle.ess_semantics.specs.Trees.{both_ends, repr, no_reprs, more_reprs, name_pat, Ex, number_ex, name_ex, seen_ex, no_exs, more_exs, no_gens, over, Dom, int_dom, set_dom, cell_ex, cond, ex2}
use Rattle.ess_semantics.specs.Domains.{Attribute, Domain, sets}
use Rattle.ess_semantics.specs.Sizes.{slots_of_set}
use Rattle.ess_semantics.specs.Meaning.{Env, meaning, domain_of}
use Rattle.ess_semantics.specs.Meets.{Meets}
use Rattle.ess_rules_laws.specs.Rules.{Unused}
use Rattle.ess_rules_laws.specs.Listings.{Alternative}
use Rattle.ess_rules_laws.specs.SetListings.{put_last}
use Rattle.ess_rules_laws.specs.ListedSources.{Offers}

-- The numbers from 1 to that of the slots.
abbrev pub slots_dom : Ex → Dom
slots_dom n = int_dom (both_ends ∷ []) (more_exs (number_ex (pos 1)) (more_exs n no_exs))

-- Of a set in n slots all in use: x over the slots, and the view in slot x.
abbrev pub explicit_listing : Text → Ex → Ex → Option Alternative
explicit_listing x n (seen_ex (repr ReprKind.Explicit (more_reprs r no_reprs)) (set_dom ms es d) ns js) =
    Some (record { gens = over (name_pat x) (slots_dom n) no_gens; item = seen_ex r d ns (put_last js (name_ex x)) })
explicit_listing x n e = None

-- Of one with a marker: x over the slots up to the marker, and the view in slot x.
abbrev pub marker_listing : Text → Ex → Ex → Option Alternative
marker_listing x n (seen_ex (repr ReprKind.ExplicitVarSizeWithMarker (more_reprs r no_reprs)) (set_dom ms es d) (m ∷ ns) js) =
    Some (record {
      gens = over (name_pat x) (slots_dom n) (cond (ex2 true Op2.Le (name_ex x) (cell_ex false m js)) no_gens);
      item = seen_ex r d ns (put_last js (name_ex x));
    })
marker_listing x n e = None

-- Of one with flags: x over the slots, where the flag of slot x is true, and the view in slot x.
abbrev pub flags_listing : Text → Ex → Ex → Option Alternative
flags_listing x n (seen_ex (repr ReprKind.ExplicitVarSizeWithFlags (more_reprs r no_reprs)) (set_dom ms es d) (m ∷ ns) js) =
    Some (record {
      gens = over (name_pat x) (slots_dom n) (cond (cell_ex true m (put_last js (name_ex x))) no_gens);
      item = seen_ex r d ns (put_last js (name_ex x));
    })
flags_listing x n e = None

-- The expression has as its value the number of slots that the set of the view has.
abbrev pub Counts : Ex → Ex → Env → Type 0
Counts n (seen_ex r (set_dom ms es d) ns js) env =
    (ks : List Attribute) (e : Domain) → domain_of (set_dom ms es d) env ≡ Some (sets ks e) → meaning n env ≡
    Some (number (pos (slots_of_set ks e)))
Counts n e env = Unit {0}

-- The expression says how many slots the set of the view has, and the tables meet its structures.
pub record SlotsAre (n e : Ex) (env : Env) : Type 0 where
  pub counts : Counts n e env
  pub met : Meets n env

-- Where the tables meet the structure of the view, it offers the listing.
abbrev pub OffersWhereMet : Option Alternative → Ex → Env → Type 0
OffersWhereMet None e env = Unit {0}
OffersWhereMet (Some a) e env = Offers e (a ∷ []) env

-- So it is of these kinds.
pub record SlotViewsAreListed : Type 0 where
  pub of_slots_all_in_use : (x : Text) (n e : Ex) (env : Env) → Unused x e → Meets e env → SlotsAre n e env →
      OffersWhereMet (explicit_listing x n e) e env
  pub of_slots_with_flags : (x : Text) (n e : Ex) (env : Env) → Unused x e → Meets e env → SlotsAre n e env →
      OffersWhereMet (flags_listing x n e) e env
  pub of_slots_up_to_a_marker : (x : Text) (n e : Ex) (env : Env) → Unused x e → Meets e env → SlotsAre n e env →
      OffersWhereMet (marker_listing x n e) e env
