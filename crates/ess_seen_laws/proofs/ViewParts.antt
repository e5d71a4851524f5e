-- Parts of views and of numbers of slots are numerals, names that are bound over slots, and what numbers of slots are made of.
use Rattle.std.proofs.Common.{◌≡◌, refl, sym, subst, ℕ, Bool, true, false, List, Option}
use Rattle.ess_semantics.specs.Values.{Text}
use Rattle.ess_semantics.specs.Names.{Names}
use Rattle.ess_semantics.specs.Trees.{Ex, Exs, number_ex, truth_ex, name_ex, node_ex, matrix_ex, comp_ex, cell_ex, seen_ex, no_exs, more_exs, Dom, bool_dom, int_dom, name_dom, tuple_dom, record_dom, matrix_dom, set_dom, mset_dom, function_dom, relation_dom, partition_dom}
use Rattle.ess_semantics.specs.Substitution.{NamesAre, NamesAreExs, NamesAreDom}
use Rattle.ess_semantics.specs.Contexts.{In, hole, in_operand, in_item, in_index_domain, in_body, in_generators, in_cell_index, in_view_domain, in_view_index, Ins, in_first, in_later, InDom, in_bound, in_component, in_field, in_index, in_element, in_set_number, in_set_member, in_mset_number, in_mset_member, in_function_number, in_argument, in_result, in_relation_number, in_relation_component, in_partition_number, in_partition_member, fill, fill_exs, fill_dom, guards, Where, WhereIn, WhereDom}
use Rattle.ess_semantics.specs.NamesAt.{names_at, names_at_exs, names_at_dom}
use Rattle.ess_nested_laws.specs.NestedDomains.{is_written_atom}
use Rattle.ess_rules_laws.specs.SlotListings.{slots_dom}
use Rattle.ess_seen_laws.specs.Seen.{Bound, Counted, so_many, from_to, from_0, subsets, none_below, Places, no_place, at_slot}
use Rattle.ess_seen_laws.specs.SeenParts.{IsStill, numeral, slot, count, start, pair, still_part, Stands}
use Rattle.ess_seen_laws.proofs.Written.{Written, atom_written, set_written, AreNumerals, sizes-numerals, bounds-numerals}
use Rattle.ess_seen_laws.proofs.Carried.{carried, later-operand}

-- At each of the expressions no rule fires.
abbrev pub AreStill : Names Bound → Exs → Type 0
AreStill r no_exs = Unit {0}
AreStill r (more_exs e es) = IsStill r e × AreStill r es

pub places-are-still : {cells : Text → Option (Bool × List ℕ)} {r : Names Bound} {es : Exs} {ks : List ℕ} → Places cells r es ks →
    AreStill r es
places-are-still no_place = tt
places-are-still (at_slot q p) = (slot q, places-are-still p)

pub numerals-are-still : (r : Names Bound) (es : Exs) → AreNumerals es → AreStill r es
numerals-are-still r no_exs h = tt
numerals-are-still r (more_exs (number_ex n) es) h = (numeral, numerals-are-still r es h)
numerals-are-still r (more_exs (truth_ex b) es) h = absurd h
numerals-are-still r (more_exs (name_ex a) es) h = absurd h
numerals-are-still r (more_exs (node_ex b o fs) es) h = absurd h
numerals-are-still r (more_exs (matrix_ex fs d) es) h = absurd h
numerals-are-still r (more_exs (comp_ex e gs) es) h = absurd h
numerals-are-still r (more_exs (cell_ex b n fs) es) h = absurd h
numerals-are-still r (more_exs (seen_ex s d ns fs) es) h = absurd h

-- What such a part is made of.
abbrev pub StillParts : Names Bound → Ex → Type 0
StillParts r (number_ex n) = Unit {0}
StillParts r (name_ex a) = Unit {0}
StillParts r (node_ex b op es) = AreStill r es
StillParts r e = ⊥

pub counted-parts : {e : Ex} {k : ℕ} (r : Names Bound) → Counted e k → StillParts r e
counted-parts r so_many = tt
counted-parts r (from_to q) = (start, (numeral, tt))
counted-parts r from_0 = (numeral, (numeral, tt))
counted-parts r (subsets c) = (numeral, (count c, tt))
counted-parts r (none_below c) = (pair c, tt)

still-parts : {r : Names Bound} {e : Ex} → IsStill r e → StillParts r e
still-parts numeral = tt
still-parts (slot q) = tt
still-parts {r} (count c) = counted-parts r c
still-parts start = (numeral, (numeral, tt))
still-parts (pair c) = (count c, (numeral, tt))

-- ---- domains

-- A domain of numerals and of numbers of slots.
abbrev pub IsStillDom : Names Bound → Dom → Type 0
IsStillDom r bool_dom = Unit {0}
IsStillDom r (int_dom rs es) = AreStill r es
IsStillDom r (set_dom ms es d) = AreStill r es × IsStillDom r d
IsStillDom r d = ⊥

atom-is-still : (r : Names Bound) (d : Dom) → is_written_atom d ≡ true → IsStillDom r d
atom-is-still r bool_dom h = tt
atom-is-still r (int_dom rs es) h = numerals-are-still r es (bounds-numerals rs es h)
atom-is-still r (name_dom a) h = cc
atom-is-still r (tuple_dom ds) h = cc
atom-is-still r (record_dom fs ds) h = cc
atom-is-still r (matrix_dom is d) h = cc
atom-is-still r (set_dom ms es d) h = cc
atom-is-still r (mset_dom ms es d) h = cc
atom-is-still r (function_dom ms es d c) h = cc
atom-is-still r (relation_dom ms es ds) h = cc
atom-is-still r (partition_dom ms es d) h = cc

-- Written domains are such, and so are those of slots.
pub written-is-still : {d : Dom} (r : Names Bound) → Written d → IsStillDom r d
written-is-still {d} r (atom_written h) = atom-is-still r d h
written-is-still r (set_written {ms = ms} {es = es} s w) = (numerals-are-still r es (sizes-numerals ms es s), written-is-still r w)

pub slots-are-still : {e : Ex} {k : ℕ} (r : Names Bound) (d : Dom) → d ≡ slots_dom e → Counted e k → IsStillDom r d
slots-are-still r d q c = subst (λ x. IsStillDom r x) (sym q) (numeral, (count c, tt))

-- ---- parts

module _ (cells : Text → Option (Bool × List ℕ)) (P : Ex → Type 0) (b : Bool) where
  mutual
    -- A part of such a one is such a one.
    pub still-stands : (c : In) (r : Names Bound) (e : Ex) → IsStill r (fill c e) →
        Stands cells (names_at c) (Where c) b (λ u v. NamesAre u v (fill c e)) r e P
    still-stands hole r e i =
        record { around = r; types = refl; known = λ u v n h. h; slots = λ env h. h; part = still_part i }
    still-stands (in_operand t op c) r e i = stills-stand (guards op) c r e (still-parts i)
    still-stands (in_item c d) r e i = absurd (still-parts i)
    still-stands (in_index_domain es c) r e i = absurd (still-parts i)
    still-stands (in_body c gs) r e i = absurd (still-parts i)
    still-stands (in_generators x c) r e i = absurd (still-parts i)
    still-stands (in_cell_index t n c) r e i = absurd (still-parts i)
    still-stands (in_view_domain s c ns es) r e i = absurd (still-parts i)
    still-stands (in_view_index s d ns c) r e i = absurd (still-parts i)

    -- The same of several.
    pub stills-stand : (g : Bool) (c : Ins) (r : Names Bound) (e : Ex) → AreStill r (fill_exs c e) →
        Stands cells (names_at_exs c) (WhereIn g c) b (λ u v. NamesAreExs u v (fill_exs c e)) r e P
    stills-stand g (in_first c es) r e i =
        carried cells (λ u v n. n.0) (λ x h. h) (still-stands c r e i.0)
    stills-stand g (in_later x c) r e i = later-operand cells g x c (λ u v n. n.1) (λ y h. h) (stills-stand false c r e i.1)

  -- The same of a domain.
  pub dom-stands : (c : InDom) (r : Names Bound) (e : Ex) → IsStillDom r (fill_dom c e) →
      Stands cells (names_at_dom c) (WhereDom c) b (λ u v. NamesAreDom u v (fill_dom c e)) r e P
  dom-stands (in_bound rs c) r e w =
      carried cells (λ u v n. n) (λ x h. h) (stills-stand false c r e w)
  dom-stands (in_set_number ms c d) r e w =
      carried cells (λ u v n. n.0) (λ x h. h) (stills-stand false c r e w.0)
  dom-stands (in_set_member ms es c) r e w =
      carried cells (λ u v n. n.1) (λ x h. h) (dom-stands c r e w.1)
  dom-stands (in_component c) r e w = absurd w
  dom-stands (in_field fs c) r e w = absurd w
  dom-stands (in_index c d) r e w = absurd w
  dom-stands (in_element is c) r e w = absurd w
  dom-stands (in_mset_number ms c d) r e w = absurd w
  dom-stands (in_mset_member ms es c) r e w = absurd w
  dom-stands (in_function_number ms c d x) r e w = absurd w
  dom-stands (in_argument ms es c x) r e w = absurd w
  dom-stands (in_result ms es d c) r e w = absurd w
  dom-stands (in_relation_number ms c ds) r e w = absurd w
  dom-stands (in_relation_component ms es c) r e w = absurd w
  dom-stands (in_partition_number ms c d) r e w = absurd w
  dom-stands (in_partition_member ms es c) r e w = absurd w
