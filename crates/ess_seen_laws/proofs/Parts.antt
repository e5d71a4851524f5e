-- Parts of trees over views are scalars, which may be replaced, sets, lists, and parts at which no rule fires.
use Rattle.std.proofs.Common.{◌≡◌, refl, sym, ap, ◌∙◌, ℕ, Bool, true, false, if◌then◌else◌, List, [], ◌∷◌, pos, Option, Some}
use Rattle.std.specs.Prelude.{IsTrue, is_some}
use Rattle.ess_semantics.specs.Values.{Text, number}
use Rattle.ess_semantics.specs.Order.{same_text}
use Rattle.ess_semantics.specs.Names.{Names, look}
use Rattle.ess_semantics.specs.Trees.{Pat, name_pat, Ex, Exs, node_ex, matrix_ex, comp_ex, cell_ex, seen_ex, Gens, over, Dom}
use Rattle.ess_semantics.specs.Types.{type_of_dom}
use Rattle.ess_semantics.specs.Typing.{source_ty}
use Rattle.ess_semantics.specs.Meaning.{meaning, domain_of, members_in, with_pat}
use Rattle.ess_semantics.specs.Substitution.{NamesAre, NamesAreExs, NamesAreGens, NamesAreDom}
use Rattle.ess_semantics.specs.Contexts.{In, hole, in_operand, in_item, in_index_domain, in_body, in_generators, in_cell_index, in_view_domain, in_view_index, Ins, in_first, in_later, InGens, in_generator_domain, behind_over, in_source, behind_from, in_condition, behind_condition, InDom, in_bound, in_component, in_field, in_index, in_element, in_set_number, in_set_member, in_mset_number, in_mset_member, in_function_number, in_argument, in_result, in_relation_number, in_relation_component, in_partition_number, in_partition_member, fill, fill_exs, fill_gens, fill_dom, guards, Where, WhereIn, WhereGens, WhereDom}
use Rattle.ess_semantics.specs.NamesAt.{names_at, names_at_exs, names_at_gens, names_at_dom}
use Rattle.ess_semantics.proofs.Texts.{same_text-equal}
use Rattle.ess_refine_laws.specs.ScopesStay.{is_outside_views, are_outside_views, gens_outside_views, dom_outside_views}
use Rattle.ess_rules_laws.proofs.RuleAnswers.{each-in-any}
use Rattle.ess_rules_laws.proofs.MatrixRules.{each-of-any}
use Rattle.ess_rules_laws.specs.SlotListings.{slots_dom}
use Rattle.ess_seen_laws.specs.Seen.{Kind, kind_ty, Bound, over_a_range, over_slots, from_a_set, bound_types, Counted, Seen, counted, figure, flag, Going, at_end, through, through_slots, among, where_holds, Range}
use Rattle.ess_seen_laws.specs.Filled.{InSlots}
use Rattle.ess_seen_laws.specs.SeenParts.{AllBound, gone_through, scalar_part, set_part, list_part, Stands, StandsIn}
use Rattle.ess_seen_laws.proofs.Carried.{part-map, carried, later-operand, behind-where}
use Rattle.ess_seen_laws.proofs.Types.{mark, range-type, source-said, going-behind}
use Rattle.ess_seen_laws.proofs.Counts.{slots-each}
use Rattle.ess_seen_laws.proofs.Held.{slots-more, slot-at, going-slots}
use Rattle.ess_seen_laws.proofs.ViewParts.{counted-parts, places-are-still, written-is-still, slots-are-still, stills-stand, dom-stands}
use Rattle.ess_seen_laws.proofs.Slots.{Slot, scalar_slot, list_slot, set_slot, Fills, AllFill, Operands, slotted, all_still, node-slots, set-slots, list-slots, index-slots, range-slots, atom-parts, set-parts}
use Rattle.ess_seen_laws.proofs.Forms.{may-fill, OverForm, over_numbers, over_counted, going-form}

-- ---- names behind generators

all-more : (b : Text → Bool) (r : Names Bound) (a : Text) (x : Bound) → IsTrue (b a) → AllBound b r → AllBound b ((a, x) ∷ r)
all-more b r a x h f c q = go (same_text a c) (λ p. ap b (same_text-equal a c p)) (f c) q
  where
    go : (v : Bool) → (v ≡ true → b a ≡ b c) → (IsTrue (is_some (look r c)) → IsTrue (b c)) →
        IsTrue (is_some (if v then Some x else look r c)) → IsTrue (b c)
    go true p g n = sym (p refl) ∙ h
    go false p g n = g n

module _ (cells : Text → Option (Bool × List ℕ)) where
  going-known : {r t : Names Bound} {gs : Gens} (u b : Text → Bool) → Going cells r gs t → NamesAreGens u b gs → AllBound b r → AllBound b t
  going-known u b at_end n f = f
  going-known {r} u b (through {m = m} {a = a} d g) n f = going-known u b g n.2 (all-more b r a (over_a_range m) n.0 f)
  going-known {r} u b (through_slots {k = k} {a = a} c g) n f = going-known u b g n.2 (all-more b r a (over_slots k) n.0 f)
  going-known {r} u b (among {k = k} {a = a} s g) n f = going-known u b g n.2 (all-more b r a (from_a_set k) n.0 f)
  going-known u b (where_holds c g) n f = going-known u b g n.1 f

  -- ---- behind generators

  -- In the body of a comprehension, whose generators bind the names t.
  in-the-body : {r t : Names Bound} (c : In) {gs : Gens} {e : Ex} {P Q : Ex → Type 0} → Going cells r gs t → ((f : Ex) → P f → Q f) →
      Stands cells (names_at c) (Where c) (is_outside_views c) (λ u b. NamesAre u b (fill c e)) t e P →
      Stands cells (names_at (in_body c gs)) (Where (in_body c gs)) (is_outside_views (in_body c gs))
      (λ u b. NamesAre u b (fill (in_body c gs) e)) r e Q
  in-the-body c g f s = record {
    around = s.around;
    types = ap (names_at c) (going-behind cells g) ∙ s.types;
    known = λ u b n h. s.known u b n.0 (going-known u b g n.1 h);
    slots = λ env h. going-slots g env (λ here. Where c here (InSlots s.around)) h (λ here k. s.slots here k);
    part = part-map cells f s.part;
  }

  -- What is said behind the first generator.
  abbrev Behind : InGens → Names Bound → Ex → (Ex → Type 0) → Type 0
  Behind c r e P =
      Stands cells (names_at_gens c) (WhereGens c) (gens_outside_views c) (λ u b. NamesAreGens u b (fill_gens c e)) r e P

  -- Behind a generator over a domain, over slots, and over a set.
  behind-domain : {r : Names Bound} (c : InGens) {a : Text} (d : Dom) {e : Ex} {m : Bool} {P Q : Ex → Type 0} →
      type_of_dom d ≡ mark m → ((f : Ex) → P f → Q f) → Behind c ((a, over_a_range m) ∷ r) e P → Behind (behind_over (name_pat a) d c) r e Q
  behind-domain {r} c {a} d {m = m} q f s = record {
    around = s.around;
    types = ap (λ t. names_at_gens c ((a, t) ∷ bound_types r)) q ∙ s.types;
    known = λ u b n h. s.known u b n.2 (all-more b r a (over_a_range m) n.0 h);
    slots = λ env h. each-of-any (members_in (domain_of d env)) (λ v. WhereGens c (with_pat (name_pat a) v env) (InSlots s.around))
        (λ v. s.slots (with_pat (name_pat a) v env) (slots-more r a (over_a_range m) v env h refl));
    part = part-map cells f s.part;
  }

  behind-slots : {r : Names Bound} (c : InGens) {a : Text} {n : Ex} {k : ℕ} {e : Ex} {P Q : Ex → Type 0} → Counted n k →
      ((f : Ex) → P f → Q f) → Behind c ((a, over_slots k) ∷ r) e P → Behind (behind_over (name_pat a) (slots_dom n) c) r e Q
  behind-slots {r} c {a} {k = k} j f s = record {
    around = s.around;
    types = s.types;
    known = λ u b n h. s.known u b n.2 (all-more b r a (over_slots k) n.0 h);
    slots = λ env h. slots-each (λ v. WhereGens c (with_pat (name_pat a) v env) (InSlots s.around)) j env
        (λ i l w. s.slots (with_pat (name_pat a) (number (pos i)) env)
        (slots-more r a (over_slots k) (number (pos i)) env h (slot-at k i l w)));
    part = part-map cells f s.part;
  }

  behind-set : {r : Names Bound} (c : InGens) {a : Text} (x : Ex) {e : Ex} {k : Kind} {P Q : Ex → Type 0} →
      source_ty x (bound_types r) ≡ kind_ty k → ((f : Ex) → P f → Q f) → Behind c ((a, from_a_set k) ∷ r) e P →
      Behind (behind_from (name_pat a) x c) r e Q
  behind-set {r} c {a} x {k = k} q f s = record {
    around = s.around;
    types = ap (λ t. names_at_gens c ((a, t) ∷ bound_types r)) q ∙ s.types;
    known = λ u b n h. s.known u b n.2 (all-more b r a (from_a_set k) n.0 h);
    slots = λ env h. each-in-any (meaning x env) (λ v. WhereGens c (with_pat (name_pat a) v env) (InSlots s.around))
        (λ v. s.slots (with_pat (name_pat a) v env) (slots-more r a (from_a_set k) v env h refl));
    part = part-map cells f s.part;
  }

  -- ---- operands, and the domain of a generator

  -- What is said of a place in operands, and in a domain.
  abbrev InOperands : Bool → Ins → Names Bound → Ex → (Ex → Type 0) → Type 0
  InOperands g c r e P =
      Stands cells (names_at_exs c) (WhereIn g c) (are_outside_views c) (λ u b. NamesAreExs u b (fill_exs c e)) r e P

  abbrev InDomain : InDom → Names Bound → Ex → (Ex → Type 0) → Type 0
  InDomain c r e P = Stands cells (names_at_dom c) (WhereDom c) (dom_outside_views c) (λ u b. NamesAreDom u b (fill_dom c e)) r e P

  operands-stand : (g : Bool) (c : Ins) (r : Names Bound) (e : Ex) (P : Exs → Type 0) →
      ((ks : List Slot) → AllFill cells r ks (fill_exs c e) → InOperands g c r e (λ f. AllFill cells r ks (fill_exs c f))) →
      Operands cells r (fill_exs c e) P → InOperands g c r e (λ f. P (fill_exs c f))
  operands-stand g c r e P i (slotted v) = carried cells (λ u b n. n) (λ x h. v.2 (fill_exs c x) h) (i v.0 v.1)
  operands-stand g c r e P i (all_still s) = stills-stand cells (λ f. P (fill_exs c f)) (are_outside_views c) g c r e s

  first-domain : (c : InDom) (gs : Gens) (r t : Names Bound) (e : Ex) (p : Pat) →
      ((m : Bool) → Range cells r (fill_dom c e) m → InDomain c r e (λ f. Range cells r (fill_dom c f) m)) →
      OverForm cells r (fill_dom c e) gs t p → Behind (in_generator_domain p c gs) r e (λ f. Going cells r (over p (fill_dom c f) gs) t)
  first-domain c gs r t e p i (over_numbers {m = m} n k) = carried cells (λ u b h. h.1) (λ x h. through h k) (i m n)
  first-domain c gs r t e p i (over_counted q n k) =
      carried cells (λ u b h. h.1) (λ x h. h)
      (dom-stands cells (λ f. Going cells r (over p (fill_dom c f) gs) t) (dom_outside_views c) c r e
      (slots-are-still r (fill_dom c e) q n))

  -- ---- parts

  mutual
    part : (c : In) (k : Slot) (r : Names Bound) (e : Ex) → Fills cells r k (fill c e) →
        Stands cells (names_at c) (Where c) (is_outside_views c) (λ u b. NamesAre u b (fill c e)) r e (λ f. Fills cells r k (fill c f))
    part hole (scalar_slot m) r e f =
        record { around = r; types = refl; known = λ u b n h. h; slots = λ env h. h; part = scalar_part m f (λ x h. h) }
    part hole (list_slot m) r e f =
        record { around = r; types = refl; known = λ u b n h. h; slots = λ env h. h; part = list_part m f }
    part hole (set_slot k) r e f =
        record { around = r; types = refl; known = λ u b n h. h; slots = λ env h. h; part = set_part k f }
    part (in_operand b op c) (scalar_slot m) r e f =
        carried cells (λ u a n. n) (λ x h. h)
        (operands-stand (guards op) c r e (λ fs. Seen cells r (node_ex b op fs) m) (λ ks h. part-exs (guards op) c ks r e h)
        (node-slots cells f))
    part (in_operand b op c) (list_slot m) r e f =
        let v = list-slots cells f in carried cells (λ u a n. n) (λ x h. v.2 (fill_exs c x) h) (part-exs (guards op) c v.0 r e v.1)
    part (in_operand b op c) (set_slot k) r e f =
        let v = set-slots cells f in carried cells (λ u a n. n) (λ x h. v.2 (fill_exs c x) h) (part-exs (guards op) c v.0 r e v.1)
    part (in_item c d) k r e f = absurd (may-fill cells r k (matrix_ex (fill_exs c e) d) f)
    part (in_index_domain es c) k r e f = absurd (may-fill cells r k (matrix_ex es (fill_dom c e)) f)
    part (in_body c gs) (scalar_slot m) r e f = absurd (may-fill cells r (scalar_slot m) (comp_ex (fill c e) gs) f)
    part (in_body c gs) (list_slot m) r e (gone_through {t = t} g f) =
        in-the-body c g (λ x h. gone_through g h) (part c (scalar_slot m) t e f)
    part (in_body c gs) (set_slot k) r e f = absurd (may-fill cells r (set_slot k) (comp_ex (fill c e) gs) f)
    part (in_generators x c) (scalar_slot m) r e f = absurd (may-fill cells r (scalar_slot m) (comp_ex x (fill_gens c e)) f)
    part (in_generators x c) (list_slot m) r e (gone_through {t = t} g f) =
        carried cells (λ u a n. n.1) (λ y h. gone_through h f) (part-going c r t e g)
    part (in_generators x c) (set_slot k) r e f = absurd (may-fill cells r (set_slot k) (comp_ex x (fill_gens c e)) f)
    part (in_cell_index b n c) (scalar_slot m) r e (counted i) = absurd (counted-parts r i)
    part (in_cell_index b n c) (scalar_slot m) r e (figure q i) =
        carried cells (λ u a h. h) (λ x h. h)
        (stills-stand cells (λ f. Seen cells r (cell_ex false n (fill_exs c f)) false) (are_outside_views c) false c r e
        (places-are-still i))
    part (in_cell_index b n c) (scalar_slot m) r e (flag q i) =
        let v = index-slots cells i in carried cells (λ u a h. h) (λ x h. flag q (v.2 (fill_exs c x) h)) (part-exs false c v.0 r e v.1)
    part (in_cell_index b n c) (list_slot m) r e f = absurd (may-fill cells r (list_slot m) (cell_ex b n (fill_exs c e)) f)
    part (in_cell_index b n c) (set_slot k) r e f = absurd (may-fill cells r (set_slot k) (cell_ex b n (fill_exs c e)) f)
    part (in_view_domain s c ns es) (scalar_slot m) r e f =
        carried cells (λ u a n. n.0) (λ x h. h) (dom-stands cells _ false c r e (written-is-still r (atom-parts cells f).0))
    part (in_view_domain s c ns es) (list_slot m) r e f = absurd (may-fill cells r (list_slot m) (seen_ex s (fill_dom c e) ns es) f)
    part (in_view_domain s c ns es) (set_slot k) r e f =
        carried cells (λ u a n. n.0) (λ x h. h) (dom-stands cells _ false c r e (written-is-still r (set-parts cells f).0))
    part (in_view_index s d ns c) (scalar_slot m) r e f =
        carried cells (λ u a n. n.1) (λ x h. h) (stills-stand cells _ false false c r e (atom-parts cells f).1)
    part (in_view_index s d ns c) (list_slot m) r e f = absurd (may-fill cells r (list_slot m) (seen_ex s d ns (fill_exs c e)) f)
    part (in_view_index s d ns c) (set_slot k) r e f =
        carried cells (λ u a n. n.1) (λ x h. h) (stills-stand cells _ false false c r e (set-parts cells f).1)

    part-exs : (g : Bool) (c : Ins) (ks : List Slot) (r : Names Bound) (e : Ex) → AllFill cells r ks (fill_exs c e) →
        InOperands g c r e (λ f. AllFill cells r ks (fill_exs c f))
    part-exs g (in_first c es) [] r e h = absurd h
    part-exs g (in_first c es) (k ∷ ks) r e h = carried cells (λ u b n. n.0) (λ x y. (y, h.1)) (part c k r e h.0)
    part-exs g (in_later x c) [] r e h = absurd h
    part-exs g (in_later x c) (k ∷ ks) r e h = later-operand cells g x c (λ u b n. n.1) (λ y z. (h.0, z)) (part-exs false c ks r e h.1)

    part-going : (c : InGens) (r t : Names Bound) (e : Ex) → Going cells r (fill_gens c e) t →
        Behind c r e (λ f. Going cells r (fill_gens c f) t)
    part-going (in_generator_domain p c gs) r t e g =
        first-domain c gs r t e p (λ m n. part-dom c m r e n) (going-form cells g)
    part-going (behind_over p d c) r t e (through {m = m} {a = a} n k) =
        behind-domain c d (range-type r d m n) (λ x h. through n h) (part-going c ((a, over_a_range m) ∷ r) t e k)
    part-going (behind_over p d c) r t e (through_slots {k = j} {a = a} n k) =
        behind-slots c n (λ x h. through_slots n h) (part-going c ((a, over_slots j) ∷ r) t e k)
    part-going (in_source p c gs) r t e (among {k = j} s k) =
        carried cells (λ u b h. h.1) (λ x h. among h k) (part c (set_slot j) r e s)
    part-going (behind_from p x c) r t e (among {k = j} {a = a} s k) =
        behind-set c x (source-said cells s) (λ y h. among s h) (part-going c ((a, from_a_set j) ∷ r) t e k)
    part-going (in_condition c gs) r t e (where_holds f k) =
        carried cells (λ u b h. h.0) (λ x h. where_holds h k) (part c (scalar_slot true) r e f)
    part-going (behind_condition x c) r t e (where_holds f k) =
        behind-where cells x c (λ u b h. h.1) (λ y h. where_holds f h) (part-going c r t e k)

    part-dom : (c : InDom) (m : Bool) (r : Names Bound) (e : Ex) → Range cells r (fill_dom c e) m →
        InDomain c r e (λ f. Range cells r (fill_dom c f) m)
    part-dom (in_bound rs c) m r e n =
        let v = range-slots cells n in carried cells (λ u a n. n) (λ x h. v.2 (fill_exs c x) h) (part-exs false c v.0 r e v.1)
    part-dom (in_component c) m r e f = absurd (range-slots cells f)
    part-dom (in_field fs c) m r e f = absurd (range-slots cells f)
    part-dom (in_index c d) m r e f = absurd (range-slots cells f)
    part-dom (in_element is c) m r e f = absurd (range-slots cells f)
    part-dom (in_set_number ms c d) m r e f = absurd (range-slots cells f)
    part-dom (in_set_member ms es c) m r e f = absurd (range-slots cells f)
    part-dom (in_mset_number ms c d) m r e f = absurd (range-slots cells f)
    part-dom (in_mset_member ms es c) m r e f = absurd (range-slots cells f)
    part-dom (in_function_number ms c d x) m r e f = absurd (range-slots cells f)
    part-dom (in_argument ms es c x) m r e f = absurd (range-slots cells f)
    part-dom (in_result ms es d c) m r e f = absurd (range-slots cells f)
    part-dom (in_relation_number ms c ds) m r e f = absurd (range-slots cells f)
    part-dom (in_relation_component ms es c) m r e f = absurd (range-slots cells f)
    part-dom (in_partition_number ms c d) m r e f = absurd (range-slots cells f)
    part-dom (in_partition_member ms es c) m r e f = absurd (range-slots cells f)

  -- What is said of a part of a tree over views.
  pub seen-part : (r : Names Bound) (c : In) (e : Ex) (m : Bool) → Seen cells r (fill c e) m → StandsIn cells c r e m
  seen-part r c e m f = part c (scalar_slot m) r e f
