-- A view of a multiset in slots with numbers: what its tables stand for.
use Rattle.std.proofs.Common.{◌≡◌, refl, sym, ap, ◌∙◌, ℕ, ◌≤◌, Bool, true, false, not, List, [], ◌∷◌, ◌++◌, map, filter, length, ℤ, pos, negsuc, zero, suc, ◌<ℤ◌, Option, Some, None, option_map, arith}
use Rattle.std.proofs.lemmas.Int.{ints}
use Rattle.std.specs.Ordering.{is_lt}
use Rattle.std.specs.Cmp.{int_cmp_is}
use Rattle.std.specs.declared.cmp.Ordering.TheVariants.{Less, Greater}
use Rattle.std.specs.List.{list_all}
use Rattle.ess_semantics.specs.declared.words.Op2.{Op2}
use Rattle.ess_semantics.specs.declared.words.ReprKind.{ReprKind}
use Rattle.ess_semantics.specs.Lists.{and_then, each_of, is_some_and}
use Rattle.ess_semantics.specs.Values.{Text, Value, number, truth, itself}
use Rattle.ess_semantics.specs.Order.{same_text, below}
use Rattle.ess_semantics.specs.Collections.{sorted, mset_of, no_twice}
use Rattle.ess_semantics.specs.Names.{look}
use Rattle.ess_semantics.specs.Numbers.{one_to, not_below_0}
use Rattle.ess_semantics.specs.Trees.{binary, Mark, Repr, repr, no_reprs, more_reprs, Ex, Exs, name_ex, seen_ex, Dom, mset_dom}
use Rattle.ess_semantics.specs.Domains.{Attribute, Domain, msets, lists_of}
use Rattle.ess_semantics.specs.Membership.{member}
use Rattle.ess_semantics.specs.Operators.{value_of_node, false_where_undefined}
use Rattle.ess_semantics.specs.Tables.{Table, Tables, cell_at}
use Rattle.ess_semantics.specs.Cells.{Cells, cells_at}
use Rattle.ess_semantics.specs.Layers.{where_counted, own_cell, repeated, only_child}
use Rattle.ess_semantics.specs.MultisetLayers.{mset_flags_layer}
use Rattle.ess_semantics.specs.CanonicalTest.{in_use_first}
use Rattle.ess_semantics.specs.Sizes.{slots_of_mset}
use Rattle.ess_semantics.specs.Representations.{width, own_part, child_part, places_by, values_of_children, value_of_cells, value_of_tables}
use Rattle.ess_semantics.specs.Declarations.{declarations_below, axes_of}
use Rattle.ess_semantics.specs.Tidy.{tidy, tidy_cells, is_orderly, are_orderly, over_axes}
use Rattle.ess_semantics.specs.Meaning.{Env, meaning, meanings, attributes_of, domain_of, indices, tables_in, cell_in, cell_value}
use Rattle.ess_semantics.specs.Meets.{Meets}
use Rattle.ess_semantics.specs.Substitution.{NamesAreExs}
use Rattle.ess_semantics.proofs.Tests.{and-left, and-right}
use Rattle.ess_semantics.proofs.Orders.{to_list-of_list}
use Rattle.ess_semantics.proofs.Multisets.{sorted-all}
use Rattle.ess_rules_laws.proofs.RuleAnswers.{behind}
use Rattle.ess_rules_laws.proofs.OccurrenceListing.{put-meanings, last-index}
use Rattle.ess_rules_laws.specs.SetListings.{put_last}
use Rattle.ess_rules_laws.proofs.FunctionViewParts.{tables-split}
use Rattle.ess_rules_laws.proofs.TablesOfViews.{tables-short, axes-long, axes-same, over-behind, over-long}
use Rattle.ess_rules_laws.proofs.SlotNumbers.{as_place, slots-are}
use Rattle.ess_rules_laws.proofs.SlotSets.{In, orderly_in}
use Rattle.ess_views_laws.specs.MultisetViews.{number_at, is_there}
use Rattle.ess_views_kept_laws.proofs.OpenedViews.{opened, opened-means}
use Rattle.ess_views_kept_laws.proofs.NumberedMembers.{mset-parts}
use Rattle.ess_kinds_kept_laws.proofs.SlottedNumbers.{positive, counted-are, Beside, beside, all-repeated}

no : {A : Type 0} → false ≡ true → A
no h = cc

above-0 : (n : ℕ) → Some (truth (below (number (pos 0)) (number (pos (suc n))))) ≡ Some (truth true)
above-0 n = ap (λ o. Some (truth (is_lt o))) (sym (int_cmp_is (pos 0) (pos (suc n)) Less
    (let e : pos 0 <ℤ pos (suc n) = omega (arith, ints) in e)))

below-0 : (n : ℕ) → Some (truth (below (number (pos 0)) (number (negsuc n)))) ≡ Some (truth false)
below-0 n = ap (λ o. Some (truth (is_lt o))) (sym (int_cmp_is (pos 0) (negsuc n) Greater
    (let e : negsuc n <ℤ pos 0 = omega (arith, ints) in e)))

-- ---- tidy cells

module _ (r : Repr) (ks : List Attribute) (d : Domain) where
  abbrev K : ReprKind
  K = ReprKind.MSetExplicitWithFlags

  abbrev pub Slotted : Repr
  Slotted = repr K (more_reprs r no_reprs)

  abbrev Slots : List ℤ
  Slots = one_to (slots_of_mset ks d)

  -- The number of a slot.
  abbrev pub number_in_slot : Cells → ℤ → Option ℕ
  number_in_slot c k = and_then (own_cell (own_part K c) (k ∷ [])) not_below_0

  -- The numbers of all slots, and the values of those in use.
  pub record NumbersStand (c : Cells) : Type 0 where
    pub ns : List ℕ
    pub vs : List Value
    pub values : each_of (map as_place (filter (λ k. positive (number_in_slot c k)) (one_to (slots_of_mset ks d)))) (In r d (child_part K c)) ≡
        Some vs
    pub beside_slots : Beside (number_in_slot c) (In r d (child_part K c)) (one_to (slots_of_mset ks d)) ns vs
    pub is_value : value_of_cells Slotted (msets ks d) c ≡ Some (mset_of (repeated ns vs))
    pub members : list_all (member d) vs ≡ true
    pub differ : no_twice itself vs ≡ true
    pub orderly : list_all (orderly_in r d (child_part K c))
        (map as_place (filter (λ k. positive (number_in_slot c k)) (one_to (slots_of_mset ks d)))) ≡ true

  module _ (c : Cells) where
    abbrev P : List (List ℤ)
    P = lists_of (Slots ∷ [])

    abbrev Numbers : Option (List ℕ)
    Numbers = each_of Slots (number_in_slot c)

    abbrev Places : Option (List (List ℤ))
    Places = places_by where_counted (own_part K c) P

    abbrev Of : List (List Value) → Option Value
    Of vss = option_map (λ ns. mset_of (repeated ns (only_child vss))) Numbers

    abbrev Built : Option (List (List ℤ)) → Option Value
    Built o = and_then o (λ js. and_then (values_of_children (more_reprs r no_reprs) (d ∷ []) (child_part K c) js) Of)

    abbrev Orderly : Option (List (List ℤ)) → Bool
    Orderly o = is_some_and o (are_orderly (mset_flags_layer ks d) (more_reprs r no_reprs) (d ∷ []) (child_part K c))

    abbrev Used : List ℤ
    Used = filter (λ k. positive (number_in_slot c k)) Slots

    places-are : (js : List (List ℤ)) → Places ≡ Some js → js ≡ map as_place Used
    places-are js q = counted-are (own_cell (own_part K c)) Slots js
        (ap (places_by where_counted (own_part K c)) (sym (slots-are Slots)) ∙ q)

    numbered : (js : List (List ℤ)) (vs : List Value) (o : Option (List ℕ)) → Places ≡ Some js →
        each_of js (In r d (child_part K c)) ≡ Some vs → Numbers ≡ o →
        is_some_and (option_map (λ ns. mset_of (repeated ns vs)) o) (member (msets ks d)) ≡ true →
        are_orderly (mset_flags_layer ks d) (more_reprs r no_reprs) (d ∷ []) (child_part K c) js ≡ true → NumbersStand c
    numbered js vs None p q n m y = no m
    numbered js vs (Some ns) p q n m y = let j = places-are js p in
        let u : each_of (map as_place Used) (In r d (child_part K c)) ≡ Some vs = ap (λ l. each_of l (In r d (child_part K c))) (sym j) ∙ q in
        let b = beside (number_in_slot c) (In r d (child_part K c)) Slots ns vs n u in record {
          ns = ns;
          vs = vs;
          values = u;
          beside_slots = b;
          is_value = ap Built p ∙ ap (λ o. and_then (and_then o (λ vs. option_map (λ vss. vs ∷ vss) (Some []))) Of) q
              ∙ ap (option_map (λ ns. mset_of (repeated ns vs))) n;
          members = all-repeated (number_in_slot c) (In r d (child_part K c)) (member d) Slots ns vs b
              (sym (ap (list_all (member d)) (to_list-of_list (sorted (repeated ns vs))) ∙ sorted-all (member d) (repeated ns vs))
              ∙ and-right _ _ (and-left _ _ m));
          differ = sym (ap (λ o. is_some_and o (no_twice itself)) q) ∙ and-right _ _ (and-left _ _ y);
          orderly = ap (list_all (orderly_in r d (child_part K c))) (sym j) ∙ and-left _ _ (and-left _ _ y);
        }

    inner : (js : List (List ℤ)) (o : Option (List Value)) → Places ≡ Some js → each_of js (In r d (child_part K c)) ≡ o →
        is_some_and (and_then (and_then o (λ vs. option_map (λ vss. vs ∷ vss) (Some []))) Of) (member (msets ks d)) ≡ true →
        are_orderly (mset_flags_layer ks d) (more_reprs r no_reprs) (d ∷ []) (child_part K c) js ≡ true → NumbersStand c
    inner js None p q m y = no m
    inner js (Some vs) p q m y = numbered js vs Numbers p q refl m y

    placed : (o : Option (List (List ℤ))) → Places ≡ o → is_some_and (Built o) (member (msets ks d)) ≡ true → Orderly o ≡ true →
        NumbersStand c
    placed None p m y = no m
    placed (Some js) p m y = inner js (each_of js (In r d (child_part K c))) p refl m y

    pub numbers-stand : tidy_cells Slotted (msets ks d) c ≡ true → NumbersStand c
    numbers-stand h = placed Places refl
        (and-left (is_some_and (value_of_cells Slotted (msets ks d) c) (member (msets ks d))) (is_orderly Slotted (msets ks d) c) h)
        (and-right (in_use_first (mset_flags_layer ks d) (own_part K c)) (Orderly Places)
        (and-right (is_some_and (value_of_cells Slotted (msets ks d) c) (member (msets ks d))) (is_orderly Slotted (msets ks d) c) h))

-- ---- the view

module _ (r : Repr) (ms : List Mark) (es : Exs) (dd : Dom) (m : Text) (ns : List Text) (js : Exs) (env : Env) where
  abbrev R : Repr
  R = repr ReprKind.MSetExplicitWithFlags (more_reprs r no_reprs)

  abbrev pub SlottedView : Ex
  SlottedView = seen_ex R (mset_dom ms es dd) (m ∷ ns) js

  -- The parts of the view, and what its tables stand for.
  pub record SlotsSeen : Type 0 where
    pub ks : List Attribute
    pub d : Domain
    pub t : Table
    pub ts : Tables
    pub i : List ℤ
    pub domain_is : domain_of (mset_dom ms es dd) env ≡ Some (msets ks d)
    pub inner_is : domain_of dd env ≡ Some d
    pub first_is : look env.cells m ≡ Some t
    pub rest_are : tables_in env.cells ns ≡ Some ts
    pub index_is : indices (meanings js env) ≡ Some i
    pub over_slots : (k : ℤ) → over_axes (i ++ (k ∷ [])) (axes_of r d) ts ≡ true
    pub stand : NumbersStand r ks d (cells_at (t ∷ ts) i)
    pub is_value : meaning SlottedView env ≡ Some (mset_of (repeated stand.ns stand.vs))

  pub slots-seen : Meets SlottedView env → SlotsSeen
  slots-seen h = let o = opened R (mset_dom ms es dd) (m ∷ ns) js env h in
      let d = mset-parts (attributes_of ms (meanings es env)) (domain_of dd env) o.d o.domain_is in
      let s = tables-split m ns env o.ts o.tables_are in
      let y : tidy R (msets d.0 d.1) (s.0 ∷ s.1) o.i ≡ true = ap (λ z. tidy R z (s.0 ∷ s.1) o.i) (sym d.2)
      ∙ ap (λ z. tidy R o.d z o.i) (sym s.4) ∙ o.is_tidy in
      let n = numbers-stand r d.0 d.1 (cells_at (s.0 ∷ s.1) o.i) (and-right _ _ y) in record {
        ks = d.0;
        d = d.1;
        t = s.0;
        ts = s.1;
        i = o.i;
        domain_is = o.domain_is ∙ ap Some d.2;
        inner_is = d.3;
        first_is = s.2;
        rest_are = s.3;
        index_is = o.index_is;
        over_slots = λ k. ap (λ z. over_axes (o.i ++ (k ∷ [])) z s.1) (sym (axes-same true r d.1))
            ∙ over-behind o.i k (one_to (slots_of_mset d.0 d.1)) (declarations_below true r d.1) s.1 (and-right _ _ (and-left _ _ y));
        stand = n;
        is_value = opened-means R (mset_dom ms es dd) (m ∷ ns) js env refl o ∙ ap (λ z. value_of_tables R o.d z o.i) s.4
            ∙ ap (λ z. value_of_tables R z (s.0 ∷ s.1) o.i) d.2 ∙ n.is_value;
      }

  module _ (s : SlotsSeen) where
    pub slots-short : length s.ts ≤ width r
    slots-short = let a = over-long (s.i ++ (pos 0 ∷ [])) (axes_of r s.d) s.ts (s.over_slots (pos 0)) in
        let b = axes-long (declarations_below false r s.d) in let c = tables-short false r s.d in omega arith

    -- The number of a slot.
    abbrev pub SlotNumber : ℤ → Option ℕ
    SlotNumber k = and_then (cell_at s.t (s.i ++ (k ∷ []))) not_below_0

    module _ (x : Text) (new-js : NamesAreExs (λ a. not (same_text x a)) (λ a. true) js) where
      cell-means : (k : ℤ) → meaning (number_at m js x) (behind x (number k) env) ≡
          option_map (cell_value false) (cell_at s.t (s.i ++ (k ∷ [])))
      cell-means k = ap (λ o. cell_in false o (indices (meanings (put_last js (name_ex x)) (behind x (number k) env)))) s.first_is
          ∙ ap (cell_in false (Some s.t)) (ap indices (put-meanings x (number k) js env new-js)
          ∙ last-index (meanings js env) s.i (number k) s.index_is)

      -- What the cell of a slot says.
      pub slot-number-means : (k : ℤ) (n : ℕ) → SlotNumber k ≡ Some n → meaning (number_at m js x) (behind x (number k) env) ≡
          Some (number (pos n))
      slot-number-means k n q = cell-means k ∙ go (cell_at s.t (s.i ++ (k ∷ []))) q
        where
          go : (o : Option ℤ) → and_then o not_below_0 ≡ Some n → option_map (cell_value false) o ≡ Some (number (pos n))
          go None q = cc
          go (Some (pos z)) q = ap (λ z. Some (number (pos z))) (let e : z ≡ n = cc in e)
          go (Some (negsuc z)) q = cc

      -- Whether the slot is in use.
      pub is-there-means : (k : ℤ) → meaning (is_there m js x) (behind x (number k) env) ≡ Some (truth (positive (SlotNumber k)))
      is-there-means k = ap (λ o. false_where_undefined true (value_of_node (binary Op2.Gt) (o ∷ Some (number (pos 0)) ∷ []))) (cell-means k)
          ∙ go (cell_at s.t (s.i ++ (k ∷ [])))
        where
          go : (o : Option ℤ) → false_where_undefined true
              (value_of_node (binary Op2.Gt) (option_map (cell_value false) o ∷ Some (number (pos 0)) ∷ [])) ≡
              Some (truth (positive (and_then o not_below_0)))
          go None = refl
          go (Some (pos zero)) = refl
          go (Some (pos (suc n))) = above-0 n
          go (Some (negsuc n)) = below-0 n
