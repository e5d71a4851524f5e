-- Parts of bare trees are bare, or lists of bare items; and a bare part may be replaced.
use Rattle.std.proofs.Common.{◌≡◌, refl, sym, ap, ◌∙◌, subst, ℕ, Bool, true, false, List, [], ◌∷◌, Option}
use Rattle.ess_semantics.specs.Values.{Text}
use Rattle.ess_semantics.specs.Names.{Names}
use Rattle.ess_semantics.specs.Trees.{name_pat, Ex, node_ex, matrix_ex, comp_ex, cell_ex, seen_ex, Gens, from, cond, Dom, bool_dom, int_dom}
use Rattle.ess_semantics.specs.Types.{Ty, type_of_dom}
use Rattle.ess_semantics.specs.Typed.{Typed}
use Rattle.ess_semantics.specs.Contexts.{In, hole, in_operand, in_item, in_index_domain, in_body, in_generators, in_cell_index, in_view_domain, in_view_index, Ins, in_first, in_later, InGens, in_generator_domain, behind_over, in_source, behind_from, in_condition, behind_condition, InDom, in_bound, in_component, in_field, in_index, in_element, in_set_number, in_set_member, in_mset_number, in_mset_member, in_function_number, in_argument, in_result, in_relation_number, in_relation_component, in_partition_number, in_partition_member, fill, fill_exs, fill_gens, fill_dom}
use Rattle.ess_semantics.specs.NamesAt.{names_at, names_at_exs, names_at_gens, names_at_dom, names_behind}
use Rattle.ess_semantics.specs.StaysAt.{StaysBehind, StaysAt, StaysAtExs, StaysAtGens, StaysAtDom}
use Rattle.ess_refine_laws.specs.ScopesStay.{is_outside_views, are_outside_views, gens_outside_views, dom_outside_views}
use Rattle.ess_types_laws.proofs.SoundEnvs.{over-typed}
use Rattle.ess_bare_laws.specs.Bare.{Bare, number, truth, named, cell, one, two, power, chosen, folded, added, ordered, row, Ranging, at_end, through, where_holds, Axes, no_axis, along, Range, truths, numbers}
use Rattle.ess_bare_laws.specs.BareParts.{mark_ty, marked_types, Part, scalar, items, Stands, StandsIn}
use Rattle.ess_bare_laws.proofs.Picks.{axes-ranging}
use Rattle.ess_bare_laws.proofs.Slots.{Slot, scalar_slot, row_slot, truths_slot, listed, Fills, AllFill, node-slots, index-slots, bound-slots}

module _ (cells : Text → Option (Bool × ℕ)) where
  -- ---- what may stand where

  -- The form of what fills a slot.
  abbrev MayFill : Slot → Ex → Type 0
  MayFill k (matrix_ex es d) = ⊥
  MayFill k (seen_ex r d ns es) = ⊥
  MayFill (scalar_slot m) (comp_ex e gs) = ⊥
  MayFill (row_slot m) (node_ex b op es) = ⊥
  MayFill (row_slot m) (cell_ex b n es) = ⊥
  MayFill truths_slot (node_ex b op es) = ⊥
  MayFill truths_slot (cell_ex b n es) = ⊥
  MayFill k e = Unit {0}

  may-fill : (r : Names Bool) (k : Slot) (e : Ex) → Fills cells r k e → MayFill k e
  may-fill r (scalar_slot m) e number = tt
  may-fill r (scalar_slot m) e truth = tt
  may-fill r (scalar_slot m) e (named h) = tt
  may-fill r (scalar_slot m) e (cell h i) = tt
  may-fill r (scalar_slot m) e (one w f) = tt
  may-fill r (scalar_slot m) e (two w f h) = tt
  may-fill r (scalar_slot m) e (power f h) = tt
  may-fill r (scalar_slot m) e (chosen f) = tt
  may-fill r (scalar_slot m) e (folded w g f) = tt
  may-fill r (scalar_slot m) e (added g f) = tt
  may-fill r (scalar_slot m) e (ordered w f h) = tt
  may-fill r (row_slot m) e (row g f) = tt
  may-fill r truths_slot e (listed g f) = tt

  -- The form of generators, with conditions and without.
  abbrev MayRange : Gens → Type 0
  MayRange (from p e gs) = ⊥
  MayRange gs = Unit {0}

  may-range-on : (r t : Names Bool) (gs : Gens) → Ranging cells r gs t → MayRange gs
  may-range-on r t gs at_end = tt
  may-range-on r t gs (through n k) = tt
  may-range-on r t gs (where_holds f k) = tt

  abbrev MayGoAlong : Gens → Type 0
  MayGoAlong (from p e gs) = ⊥
  MayGoAlong (cond c gs) = ⊥
  MayGoAlong gs = Unit {0}

  may-go-along : (r t : Names Bool) (gs : Gens) → Axes cells r gs t → MayGoAlong gs
  may-go-along r t gs no_axis = tt
  may-go-along r t gs (along n k) = tt

  -- The domain of a generator.
  abbrev MayBe : Dom → Type 0
  MayBe bool_dom = Unit {0}
  MayBe (int_dom rs es) = Unit {0}
  MayBe d = ⊥

  may-be : (r : Names Bool) (d : Dom) (m : Bool) → Range cells r d m → MayBe d
  may-be r d m truths = tt
  may-be r d m (numbers b es) = tt

  -- ---- behind generators

  -- The types of names behind generators are those of their marks.
  behind-types : (r t : Names Bool) (gs : Gens) → Ranging cells r gs t → names_behind gs (marked_types r) ≡ marked_types t
  behind-types r t gs at_end = refl
  behind-types r t gs (through {m = m} {a = a} {gs = hs} truths k) = behind-types ((a, true) ∷ r) t hs k
  behind-types r t gs (through {m = m} {a = a} {gs = hs} (numbers b es) k) = behind-types ((a, false) ∷ r) t hs k
  behind-types r t gs (where_holds {gs = hs} f k) = behind-types r t hs k

  -- Names keep values of their types behind generators.
  behind-stays : (r t : Names Bool) (gs : Gens) → Ranging cells r gs t → StaysBehind Typed gs (marked_types r)
  behind-stays r t gs at_end = tt
  behind-stays r t gs (through {a = a} {gs = hs} truths k) =
      (over-typed (marked_types r) (name_pat a) bool_dom refl, behind-stays ((a, true) ∷ r) t hs k)
  behind-stays r t gs (through {a = a} {d = d} {gs = hs} (numbers b es) k) =
      (over-typed (marked_types r) (name_pat a) d refl, behind-stays ((a, false) ∷ r) t hs k)
  behind-stays r t gs (where_holds {gs = hs} f k) = behind-stays r t hs k

  -- ---- parts

  part-map : {t : Names Bool} {e : Ex} {P Q : Ex → Type 0} → ((f : Ex) → P f → Q f) → Part cells P t e → Part cells Q t e
  part-map f (scalar k b p) = scalar k b (λ x h. f x (p x h))
  part-map f (items g b) = items g b

  carried : {at : Names Ty → Names Ty} {st : Names Ty → Type 0} {o : Bool} {r : Names Bool} {e : Ex} {P Q : Ex → Type 0} →
      ((f : Ex) → P f → Q f) → Stands cells at st o r e P → Stands cells at st o r e Q
  carried f s = record { around = s.around; types = s.types; stays = s.stays; outside = s.outside; part = part-map f s.part }

  -- In the body of a comprehension, whose generators bind the names t.
  in-the-body : {r t : Names Bool} (c : In) {gs : Gens} {e : Ex} {P Q : Ex → Type 0} → Ranging cells r gs t →
      ((f : Ex) → P f → Q f) → Stands cells (names_at c) (StaysAt Typed c) (is_outside_views c) t e P →
      Stands cells (names_at (in_body c gs)) (StaysAt Typed (in_body c gs)) (is_outside_views c) r e Q
  in-the-body {r} {t} c {gs} g f s = record {
    around = s.around;
    types = ap (names_at c) (behind-types r t gs g) ∙ s.types;
    stays = (behind-stays r t gs g, subst (StaysAt Typed c) (sym (behind-types r t gs g)) s.stays);
    outside = s.outside;
    part = part-map f s.part;
  }

  -- Behind a generator over a domain.
  behind-one : {r : Names Bool} (c : InGens) {a : Text} (d : Dom) {e : Ex} {m : Bool} {P Q : Ex → Type 0} → type_of_dom d ≡ mark_ty m →
      ((f : Ex) → P f → Q f) →
      Stands cells (names_at_gens c) (StaysAtGens Typed c) (gens_outside_views c) ((a, m) ∷ r) e P →
      Stands cells (names_at_gens (behind_over (name_pat a) d c)) (StaysAtGens Typed (behind_over (name_pat a) d c)) (gens_outside_views c)
      r e Q
  behind-one {r} c {a} d q f s = record {
    around = s.around;
    types = ap (λ t. names_at_gens c ((a, t) ∷ marked_types r)) q ∙ s.types;
    stays = (
      over-typed (marked_types r) (name_pat a) d refl,
      subst (λ t. StaysAtGens Typed c ((a, t) ∷ marked_types r)) (sym q) s.stays,
    );
    outside = s.outside;
    part = part-map f s.part;
  }

  range-type : (r : Names Bool) (d : Dom) (m : Bool) → Range cells r d m → type_of_dom d ≡ mark_ty m
  range-type r d m truths = refl
  range-type r d m (numbers b es) = refl

  mutual
    part : (c : In) (k : Slot) (r : Names Bool) (e : Ex) → Fills cells r k (fill c e) →
        Stands cells (names_at c) (StaysAt Typed c) (is_outside_views c) r e (λ f. Fills cells r k (fill c f))
    part hole (scalar_slot m) r e f = record { around = r; types = refl; stays = tt; outside = refl; part = scalar m f (λ x h. h) }
    part hole (row_slot m) r e (row g b) =
        record { around = r; types = refl; stays = tt; outside = refl; part = items (axes-ranging cells g) b }
    part hole truths_slot r e (listed g b) = record { around = r; types = refl; stays = tt; outside = refl; part = items g b }
    part (in_operand b op c) (scalar_slot m) r e f =
        let v = node-slots cells f in carried (λ x h. v.2 (fill_exs c x) h) (part-exs c v.0 r e v.1)
    part (in_operand b op c) (row_slot m) r e f = absurd (may-fill r (row_slot m) (node_ex b op (fill_exs c e)) f)
    part (in_operand b op c) truths_slot r e f = absurd (may-fill r truths_slot (node_ex b op (fill_exs c e)) f)
    part (in_item c d) k r e f = absurd (may-fill r k (matrix_ex (fill_exs c e) d) f)
    part (in_index_domain es c) k r e f = absurd (may-fill r k (matrix_ex es (fill_dom c e)) f)
    part (in_body c gs) (scalar_slot m) r e f = absurd (may-fill r (scalar_slot m) (comp_ex (fill c e) gs) f)
    part (in_body c gs) (row_slot m) r e (row {t = t} g b) =
        in-the-body c (axes-ranging cells g) (λ x h. row g h) (part c (scalar_slot m) t e b)
    part (in_body c gs) truths_slot r e (listed {t = t} g b) = in-the-body c g (λ x h. listed g h) (part c (scalar_slot true) t e b)
    part (in_generators x c) (scalar_slot m) r e f = absurd (may-fill r (scalar_slot m) (comp_ex x (fill_gens c e)) f)
    part (in_generators x c) (row_slot m) r e (row {t = t} g b) = carried (λ y h. row h b) (part-axes c r t e g)
    part (in_generators x c) truths_slot r e (listed {t = t} g b) = carried (λ y h. listed h b) (part-ranging c r t e g)
    part (in_cell_index b n c) (scalar_slot m) r e (cell q i) =
        let v = index-slots cells i in carried (λ x h. cell q (v.2 (fill_exs c x) h)) (part-exs c v.0 r e v.1)
    part (in_cell_index b n c) (row_slot m) r e f = absurd (may-fill r (row_slot m) (cell_ex b n (fill_exs c e)) f)
    part (in_cell_index b n c) truths_slot r e f = absurd (may-fill r truths_slot (cell_ex b n (fill_exs c e)) f)
    part (in_view_domain s c ns es) k r e f = absurd (may-fill r k (seen_ex s (fill_dom c e) ns es) f)
    part (in_view_index s d ns c) k r e f = absurd (may-fill r k (seen_ex s d ns (fill_exs c e)) f)

    part-exs : (c : Ins) (ks : List Slot) (r : Names Bool) (e : Ex) → AllFill cells r ks (fill_exs c e) →
        Stands cells (names_at_exs c) (StaysAtExs Typed c) (are_outside_views c) r e (λ f. AllFill cells r ks (fill_exs c f))
    part-exs (in_first c es) [] r e h = absurd h
    part-exs (in_first c es) (k ∷ ks) r e h = carried (λ x y. (y, h.1)) (part c k r e h.0)
    part-exs (in_later x c) [] r e h = absurd h
    part-exs (in_later x c) (k ∷ ks) r e h = carried (λ y z. (h.0, z)) (part-exs c ks r e h.1)

    part-ranging : (c : InGens) (r t : Names Bool) (e : Ex) → Ranging cells r (fill_gens c e) t →
        Stands cells (names_at_gens c) (StaysAtGens Typed c) (gens_outside_views c) r e (λ f. Ranging cells r (fill_gens c f) t)
    part-ranging (in_generator_domain p c gs) r t e (through {m = m} n k) = carried (λ x h. through h k) (part-dom c m r e n)
    part-ranging (behind_over p d c) r t e (through {m = m} {a = a} n k) =
        behind-one c d (range-type r d m n) (λ x h. through n h) (part-ranging c ((a, m) ∷ r) t e k)
    part-ranging (in_source p c gs) r t e h = absurd (may-range-on r t (from p (fill c e) gs) h)
    part-ranging (behind_from p s c) r t e h = absurd (may-range-on r t (from p s (fill_gens c e)) h)
    part-ranging (in_condition c gs) r t e (where_holds f k) = carried (λ x h. where_holds h k) (part c (scalar_slot true) r e f)
    part-ranging (behind_condition x c) r t e (where_holds f k) = carried (λ y h. where_holds f h) (part-ranging c r t e k)

    part-axes : (c : InGens) (r t : Names Bool) (e : Ex) → Axes cells r (fill_gens c e) t →
        Stands cells (names_at_gens c) (StaysAtGens Typed c) (gens_outside_views c) r e (λ f. Axes cells r (fill_gens c f) t)
    part-axes (in_generator_domain p c gs) r t e (along {m = m} n k) = carried (λ x h. along h k) (part-dom c m r e n)
    part-axes (behind_over p d c) r t e (along {m = m} {a = a} n k) =
        behind-one c d (range-type r d m n) (λ x h. along n h) (part-axes c ((a, m) ∷ r) t e k)
    part-axes (in_source p c gs) r t e h = absurd (may-go-along r t (from p (fill c e) gs) h)
    part-axes (behind_from p s c) r t e h = absurd (may-go-along r t (from p s (fill_gens c e)) h)
    part-axes (in_condition c gs) r t e h = absurd (may-go-along r t (cond (fill c e) gs) h)
    part-axes (behind_condition x c) r t e h = absurd (may-go-along r t (cond x (fill_gens c e)) h)

    part-dom : (c : InDom) (m : Bool) (r : Names Bool) (e : Ex) → Range cells r (fill_dom c e) m →
        Stands cells (names_at_dom c) (StaysAtDom Typed c) (dom_outside_views c) r e (λ f. Range cells r (fill_dom c f) m)
    part-dom (in_bound rs c) m r e (numbers b es) =
        let v = bound-slots cells es in carried (λ x h. numbers b (v.2 (fill_exs c x) h)) (part-exs c v.0 r e v.1)
    part-dom (in_component c) m r e f = absurd (may-be r (fill_dom (in_component c) e) m f)
    part-dom (in_field fs c) m r e f = absurd (may-be r (fill_dom (in_field fs c) e) m f)
    part-dom (in_index c d) m r e f = absurd (may-be r (fill_dom (in_index c d) e) m f)
    part-dom (in_element is c) m r e f = absurd (may-be r (fill_dom (in_element is c) e) m f)
    part-dom (in_set_number ms c d) m r e f = absurd (may-be r (fill_dom (in_set_number ms c d) e) m f)
    part-dom (in_set_member ms es c) m r e f = absurd (may-be r (fill_dom (in_set_member ms es c) e) m f)
    part-dom (in_mset_number ms c d) m r e f = absurd (may-be r (fill_dom (in_mset_number ms c d) e) m f)
    part-dom (in_mset_member ms es c) m r e f = absurd (may-be r (fill_dom (in_mset_member ms es c) e) m f)
    part-dom (in_function_number ms c d x) m r e f = absurd (may-be r (fill_dom (in_function_number ms c d x) e) m f)
    part-dom (in_argument ms es c x) m r e f = absurd (may-be r (fill_dom (in_argument ms es c x) e) m f)
    part-dom (in_result ms es d c) m r e f = absurd (may-be r (fill_dom (in_result ms es d c) e) m f)
    part-dom (in_relation_number ms c ds) m r e f = absurd (may-be r (fill_dom (in_relation_number ms c ds) e) m f)
    part-dom (in_relation_component ms es c) m r e f = absurd (may-be r (fill_dom (in_relation_component ms es c) e) m f)
    part-dom (in_partition_number ms c d) m r e f = absurd (may-be r (fill_dom (in_partition_number ms c d) e) m f)
    part-dom (in_partition_member ms es c) m r e f = absurd (may-be r (fill_dom (in_partition_member ms es c) e) m f)

  -- What is said of a part of a bare tree.
  pub bare-part : (r : Names Bool) (c : In) (e : Ex) (m : Bool) → Bare cells r (fill c e) m → StandsIn cells c r e m
  bare-part r c e m f = part c (scalar_slot m) r e f
