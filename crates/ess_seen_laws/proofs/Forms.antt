-- The forms of what fills a slot, and of generators over a domain.
use Rattle.std.proofs.Common.{◌≡◌, refl, ℕ, Bool, List, ◌∷◌, Option}
use Rattle.ess_semantics.specs.Values.{Text}
use Rattle.ess_semantics.specs.Names.{Names}
use Rattle.ess_semantics.specs.Trees.{Pat, name_pat, Ex, matrix_ex, comp_ex, cell_ex, seen_ex, Gens, over, Dom}
use Rattle.ess_rules_laws.specs.SlotListings.{slots_dom}
use Rattle.ess_seen_laws.specs.Seen.{Bound, over_a_range, over_slots, Counted, so_many, from_to, from_0, subsets, none_below, view, drawn, combined, number, truth, named, counted, figure, flag, atom, one, two, chosen, folded, of_items, size, within, set_within, compared, Going, at_end, through, through_slots, among, where_holds, Range}
use Rattle.ess_seen_laws.specs.SeenParts.{gone_through, items_listed}
use Rattle.ess_seen_laws.proofs.Slots.{Slot, scalar_slot, list_slot, set_slot, Fills}

-- The form of what fills a slot.
abbrev pub MayFill : Slot → Ex → Type 0
MayFill k (matrix_ex es d) = ⊥
MayFill (scalar_slot m) (comp_ex e gs) = ⊥
MayFill (list_slot m) (cell_ex b n es) = ⊥
MayFill (list_slot m) (seen_ex r d ns es) = ⊥
MayFill (set_slot k) (comp_ex e gs) = ⊥
MayFill (set_slot k) (cell_ex b n es) = ⊥
MayFill k e = Unit {0}

counted-fills : {e : Ex} {n : ℕ} (m : Bool) → Counted e n → MayFill (scalar_slot m) e
counted-fills m so_many = tt
counted-fills m (from_to q) = tt
counted-fills m from_0 = tt
counted-fills m (subsets c) = tt
counted-fills m (none_below c) = tt

module _ (cells : Text → Option (Bool × List ℕ)) where
  pub may-fill : (r : Names Bound) (k : Slot) (e : Ex) → Fills cells r k e → MayFill k e
  may-fill r (scalar_slot m) e number = tt
  may-fill r (scalar_slot m) e truth = tt
  may-fill r (scalar_slot m) e (named h k) = tt
  may-fill r (scalar_slot m) e (counted c) = counted-fills m c
  may-fill r (scalar_slot m) e (figure h p) = tt
  may-fill r (scalar_slot m) e (flag h i) = tt
  may-fill r (scalar_slot m) e (atom k p) = tt
  may-fill r (scalar_slot m) e (one w f) = tt
  may-fill r (scalar_slot m) e (two w f h) = tt
  may-fill r (scalar_slot m) e (chosen f) = tt
  may-fill r (scalar_slot m) e (folded w g f) = tt
  may-fill r (scalar_slot m) e (of_items w l) = tt
  may-fill r (scalar_slot m) e (size s) = tt
  may-fill r (scalar_slot m) e (within f s) = tt
  may-fill r (scalar_slot m) e (set_within u v) = tt
  may-fill r (scalar_slot m) e (compared c u v) = tt
  may-fill r (list_slot m) e (gone_through g f) = tt
  may-fill r (list_slot m) e (items_listed l) = tt
  may-fill r (set_slot k) e (view n f h p) = tt
  may-fill r (set_slot k) e (drawn q) = tt
  may-fill r (set_slot k) e (combined c u v) = tt

  -- ---- generators over a domain

  -- A name over a range, or over slots, and the generators behind it.
  pub data OverForm (r : Names Bound) (d : Dom) (gs : Gens) (t : Names Bound) : Pat → Type 0 where
    over_numbers : {m : Bool} {a : Text} → Range cells r d m → Going cells ((a, over_a_range m) ∷ r) gs t →
        OverForm r d gs t (name_pat a)
    over_counted : {e : Ex} {k : ℕ} {a : Text} → d ≡ slots_dom e → Counted e k → Going cells ((a, over_slots k) ∷ r) gs t →
        OverForm r d gs t (name_pat a)

  abbrev pub GoingForm : Names Bound → Names Bound → Gens → Type 0
  GoingForm r t (over p d gs) = OverForm r d gs t p
  GoingForm r t gs = Unit {0}

  pub going-form : {r t : Names Bound} {gs : Gens} → Going cells r gs t → GoingForm r t gs
  going-form at_end = tt
  going-form (through n g) = over_numbers n g
  going-form (through_slots c g) = over_counted refl c g
  going-form (among s g) = tt
  going-form (where_holds f g) = tt
