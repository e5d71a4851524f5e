-- Multisets as slots with repeats up to a marker are right over each inner representation that is.
use Rattle.std.proofs.Common.{◌≡◌, refl, sym, ap, ◌∙◌, ℕ, ◌+◌, ◌≤◌, Bool, true, ◌&&◌, ◌||◌, not, List, [], ◌∷◌, take, length, ℤ, pos, Some, nat_eq, int_le, arith}
use Rattle.std.proofs.Math.Path.{fun_ext}
use Rattle.std.proofs.lemmas.Bool.{le-leb, lt-leb}
use Rattle.std.specs.List.{list_all}
use Rattle.std.specs.Ordering.{is_le}
use Rattle.ess_semantics.specs.declared.words.Key.{Key}
use Rattle.ess_semantics.specs.declared.words.ReprKind.{ReprKind}
use Rattle.ess_semantics.specs.Lists.{each_of, is_some_and, or_default}
use Rattle.ess_semantics.specs.Values.{Value, to_list, of_list}
use Rattle.ess_semantics.specs.Collections.{count, sorted, mset_of, rises_weakly}
use Rattle.ess_semantics.specs.Numbers.{natural, one_to}
use Rattle.ess_semantics.specs.Trees.{Repr, Reprs, repr, no_reprs, more_reprs}
use Rattle.ess_semantics.specs.Domains.{Attribute, numbered, flagged, Domain, msets, lists_of}
use Rattle.ess_semantics.specs.Attributes.{each_number_holds, attribute_holds, size_holds, occurs_holds, set_attributes_hold, mset_attributes_hold}
use Rattle.ess_semantics.specs.Membership.{member}
use Rattle.ess_semantics.specs.Sizes.{slots_of_mset}
use Rattle.ess_semantics.specs.Tables.{is_cell}
use Rattle.ess_semantics.specs.Cells.{Grid, Cells, behind, are_zero, row, rows, order_rows}
use Rattle.ess_semantics.specs.Layers.{Layer, up_to_marker, up_to, only_child}
use Rattle.ess_semantics.specs.MultisetLayers.{repetition_layer}
use Rattle.ess_semantics.specs.Representations.{width, is_used, value_of_cells}
use Rattle.ess_semantics.specs.Declarations.{axes_of}
use Rattle.ess_semantics.specs.CanonicalTest.{next_slot, slots_rise, child_is_canonical, canonical}
use Rattle.ess_semantics.specs.Tidy.{is_orderly, are_orderly, tidy_cells}
use Rattle.ess_repr_laws.specs.CanonicalTables.{Right}
use Rattle.ess_semantics.proofs.Tests.{and-left, and-right, and-both, if-so, if-not, run-all, run-length}
use Rattle.ess_semantics.proofs.Orders.{to_list-of_list}
use Rattle.ess_repr_laws.proofs.RowsOfCells.{axes_of_children, axes-of-layer}
use Rattle.ess_repr_laws.proofs.SlotsUsed.{SlotsUsed, marker-cell, marker-used, as_place, slots-are, all-map, each_of-map, each-slot, each-run}
use Rattle.ess_repr_laws.proofs.OneForm.{values-length, each-value}
use Rattle.ess_repr_laws.proofs.CanonicalParts.{Parts, parts-of, value-of-parts, only-child, only-child-rows}
use Rattle.ess_semantics.proofs.Multisets.{count-sorted, sorted-rises, sorted-length, sorted-all}
use Rattle.ess_semantics.proofs.Repeats.{list-both}
use Rattle.ess_repr_laws.proofs.WeakForm.{Heaped, heaped-once}

-- Sorting changes nothing that attributes ask.
pub occurs-sorted : (k : Key) (z : ℤ) (vs : List Value) → occurs_holds k z (sorted vs) ≡ occurs_holds k z vs
occurs-sorted Key.MinOccur z vs =
    ap (λ f. list_all f (sorted vs)) (fun_ext (λ x. ap (λ n. int_le z (pos n)) (count-sorted vs x))) ∙ sorted-all (λ x. int_le z (pos (count vs x))) vs
occurs-sorted Key.MaxOccur z vs =
    ap (λ f. list_all f (sorted vs)) (fun_ext (λ x. ap (λ n. int_le (pos n) z) (count-sorted vs x))) ∙ sorted-all (λ x. int_le (pos (count vs x)) z) vs
occurs-sorted _ z vs = refl

attributes-sorted : (ks : List Attribute) (vs : List Value) → set_attributes_hold ks (length vs) ≡ true → each_number_holds ks (λ k z. occurs_holds k z vs) ≡ true → mset_attributes_hold ks (sorted vs) ≡ true
attributes-sorted ks vs a b =
    list-both (attribute_holds (λ k z. size_holds k z (length vs)) (λ k. true)) (attribute_holds (λ k z. occurs_holds k z vs) (λ k. true)) (attribute_holds (λ k z. size_holds k z (length (sorted vs)) && occurs_holds k z (sorted vs)) (λ k. true)) ks each a b
  where
    each : (x : Attribute) → attribute_holds (λ k z. size_holds k z (length vs)) (λ k. true) x ≡ true → attribute_holds (λ k z. occurs_holds k z vs) (λ k. true) x ≡ true →
        attribute_holds (λ k z. size_holds k z (length (sorted vs)) && occurs_holds k z (sorted vs)) (λ k. true) x ≡ true
    each (numbered k z) p q = and-both (size_holds k z (length (sorted vs))) (occurs_holds k z (sorted vs)) (ap (size_holds k z) (sorted-length vs) ∙ p) (occurs-sorted k z vs ∙ q)
    each (flagged k) p q = refl

module _ (r : Repr) (e : Domain) (ks : List Attribute) (right : Right r e) where
  abbrev S : ℕ
  S = slots_of_mset ks e

  abbrev child : Reprs
  child = more_reprs r no_reprs

  abbrev repeated : Repr
  repeated = repr ReprKind.MSetExplicitWithRepetition child

  abbrev whole : Layer
  whole = repetition_layer ks e

  abbrev slot_at : Cells → ℤ → Cells
  slot_at c k = behind (k ∷ []) c

  abbrev Full : (ℤ → Cells) → ℕ → ℕ → List Value → Type 0
  Full = Heaped (axes_of r e) (canonical r e) (value_of_cells r e) right.unique

  heaped : (own c : Cells) (n : ℕ) (vs : List Value) → SlotsUsed up_to_marker own S n → child_is_canonical whole own (axes_of r e) (canonical r e) c ≡ true →
      each_of (lists_of (one_to n ∷ [])) (λ j. value_of_cells r e (behind j c)) ≡ Some vs → Full (slot_at c) S n vs
  heaped own c n vs u h q =
      let a : Bool = list_all (λ js. not (is_used up_to_marker own js) || canonical r e (behind js c)) (lists_of whole.axes) in
      let b : Bool = slots_rise whole own (axes_of r e) c in
      let z : Bool = list_all (λ js. is_used up_to_marker own js || are_zero (axes_of r e) (behind js c)) (lists_of whole.axes) in
      let l : Bool = nat_eq (length c) (length (axes_of r e)) in
      let ha = and-right l a (and-left (l && a) b (and-left (l && a && b) z h)) in
      let hb = and-right (l && a) b (and-left (l && a && b) z h) in
      let hz = and-right (l && a && b) z h in
      let room = u.room in
      record {
        room = room;
        inside = λ k p s. if-so (is_used up_to_marker own (pos k ∷ [])) (canonical r e (slot_at c (pos k))) (u.used k p (omega arith) ∙ le-leb k n s)
            (each-slot (λ js. not (is_used up_to_marker own js) || canonical r e (behind js c)) S k ha p (omega arith));
        rise = λ k p s. if-so (is_used up_to_marker own (pos (k + 1) ∷ [])) (is_le (order_rows (rows (axes_of r e) (slot_at c (pos k))) (rows (axes_of r e) (slot_at c (pos (k + 1))))))
            (u.used (k + 1) (omega arith) (omega arith) ∙ le-leb (k + 1) n s)
            (each-slot (λ js. not (is_used up_to_marker own (next_slot js)) || is_le (order_rows (rows (axes_of r e) (behind js c)) (rows (axes_of r e) (behind (next_slot js) c)))) S k hb p (omega arith));
        free = λ k p s. if-not (is_used up_to_marker own (pos k ∷ [])) (are_zero (axes_of r e) (slot_at c (pos k))) (u.used k (omega arith) s ∙ lt-leb k n p)
            (each-slot (λ js. is_used up_to_marker own js || are_zero (axes_of r e) (behind js c)) S k hz (omega arith) s);
        values = sym (each_of-map (λ j. value_of_cells r e (behind j c)) as_place (one_to n)) ∙ ap (λ js. each_of js (λ j. value_of_cells r e (behind j c))) (sym (slots-are (one_to n))) ∙ q;
      }

  record Marked (f : Grid) (fs : Cells) : Type 0 where
    parts : Parts whole child (f ∷ []) fs
    n : ℕ
    cell : f [] ≡ Some (pos n)
    used : SlotsUsed up_to_marker (f ∷ []) S n
    vs : List Value
    full : Full (slot_at (take (width r) fs)) S n vs
    long : length (take (width r) fs) ≡ length (axes_of r e)
    value : value_of_cells repeated (msets ks e) (f ∷ fs) ≡ Some (mset_of vs)
    sizes : set_attributes_hold ks n ≡ true
    occurs : each_number_holds ks (λ k z. occurs_holds k z vs) ≡ true

  marked-of : (f : Grid) (fs : Cells) → canonical repeated (msets ks e) (f ∷ fs) ≡ true → Marked f fs
  marked-of f fs h =
      let p = parts-of whole child (f ∷ []) fs h in
      let m = marker-cell (f []) S (and-left (is_some_and (f []) (is_cell (up_to S))) true p.fit) in
      let u = marker-used (f ∷ []) S m.0 m.1 m.2 in
      let o = only-child r e whole (f ∷ []) fs p.js p.vss p.inside p.values in
      let js : p.js ≡ lists_of (one_to m.0 ∷ []) = let z : Some p.js ≡ Some (lists_of (one_to m.0 ∷ [])) = sym p.used ∙ u.found in cc in
      let q = ap (λ l. each_of l (λ j. value_of_cells r e (behind j (take (width r) fs)))) (sym js) ∙ o.values in
      let size : Bool = is_some_and (f []) (λ m. set_attributes_hold ks (natural m)) in
      record {
        parts = p;
        n = m.0;
        cell = m.1;
        used = u;
        vs = o.vs;
        full = heaped (f ∷ []) (take (width r) fs) m.0 o.vs u o.inside q;
        long = o.long;
        value = value-of-parts whole child (f ∷ []) fs p ∙ ap (λ vss. Some (mset_of (only_child vss))) o.only;
        sizes = ap (λ o. is_some_and o (λ m. set_attributes_hold ks (natural m))) (sym m.1) ∙ and-left size (each_number_holds ks (λ k z. occurs_holds k z (only_child p.vss))) p.attributes;
        occurs = ap (λ vss. each_number_holds ks (λ k z. occurs_holds k z (only_child vss))) (sym o.only) ∙ and-right size (each_number_holds ks (λ k z. occurs_holds k z (only_child p.vss))) p.attributes;
      }

  repeated-sound : (c : Cells) → canonical repeated (msets ks e) c ≡ true → (v : Value) × (value_of_cells repeated (msets ks e) c ≡ Some v)
  repeated-sound [] h = cc
  repeated-sound (f ∷ fs) h = let x = marked-of f fs h in (mset_of x.vs, x.value)

  repeated-unique : (c c' : Cells) → canonical repeated (msets ks e) c ≡ true → canonical repeated (msets ks e) c' ≡ true →
      value_of_cells repeated (msets ks e) c ≡ value_of_cells repeated (msets ks e) c' → rows (axes_of repeated (msets ks e)) c ≡ rows (axes_of repeated (msets ks e)) c'
  repeated-unique [] c' h h' q = cc
  repeated-unique (f ∷ fs) [] h h' q = cc
  repeated-unique (f ∷ fs) (g ∷ gs) h h' q =
      let x = marked-of f fs h in
      let y = marked-of g gs h' in
      let w : Some (mset_of x.vs) ≡ Some (mset_of y.vs) = sym x.value ∙ q ∙ y.value in
      let l : of_list (sorted x.vs) ≡ of_list (sorted y.vs) = cc in
      let s : sorted x.vs ≡ sorted y.vs = sym (to_list-of_list (sorted x.vs)) ∙ ap to_list l ∙ to_list-of_list (sorted y.vs) in
      let o = heaped-once (axes_of r e) (canonical r e) (value_of_cells r e) right.unique (slot_at (take (width r) fs)) (slot_at (take (width r) gs)) S x.n y.n x.vs y.vs x.full y.full
      (λ w. sym (count-sorted x.vs w) ∙ ap (λ l. count l w) s ∙ count-sorted y.vs w) in
      ap (λ a. rows a (f ∷ fs)) (axes-of-layer whole child)
      ∙ ap (λ z. (or_default z (pos 0) ∷ []) ∷ rows (axes_of_children child (e ∷ []) (one_to S ∷ [])) fs) (x.cell ∙ ap (λ n. Some (pos n)) o.0 ∙ sym y.cell)
      ∙ ap (λ l. row [] g ∷ l) (only-child-rows r e (one_to S ∷ []) fs gs x.long y.long
      (each-run (λ k. rows (axes_of r e) (slot_at (take (width r) fs) k) ≡ rows (axes_of r e) (slot_at (take (width r) gs) k)) 1 S (λ k a b. o.1 k a (omega arith))))
      ∙ sym (ap (λ a. rows a (g ∷ gs)) (axes-of-layer whole child))

  repeated-tidies : (c : Cells) → canonical repeated (msets ks e) c ≡ true → tidy_cells repeated (msets ks e) c ≡ true
  repeated-tidies [] h = cc
  repeated-tidies (f ∷ fs) h =
      let x = marked-of f fs h in
      let p = x.parts in
      let u = x.used in
      let full = x.full in
      let inside = full.inside in
      let c = take (width r) fs in
      let vs = x.vs in
      let n = x.n in
      let tidies = λ (k : ℕ) (a : 1 ≤ k) (b : k ≤ n). right.tidies (slot_at c (pos k)) (inside k a b) in
      let ms = each-value (λ k. value_of_cells r e (slot_at c k)) (member e) 1 n vs full.values
      (λ k a b v q. ap (λ o. is_some_and o (member e)) (sym q) ∙ and-left (is_some_and (value_of_cells r e (slot_at c (pos k))) (member e)) (is_orderly r e (slot_at c (pos k))) (tidies k a (omega arith))) in
      let long : length vs ≡ n = values-length (λ k. value_of_cells r e (slot_at c k)) (one_to n) vs full.values ∙ run-length 1 n in
      let orderly = run-all (λ k. is_orderly r e (slot_at c k)) 1 n (λ k a b. and-right (is_some_and (value_of_cells r e (slot_at c (pos k))) (member e)) (is_orderly r e (slot_at c (pos k))) (tidies k a (omega arith))) in
      and-both (is_some_and (value_of_cells repeated (msets ks e) (f ∷ fs)) (member (msets ks e))) _
      (ap (λ o. is_some_and o (member (msets ks e))) x.value
      ∙ ap (λ l. rises_weakly l && list_all (member e) l && mset_attributes_hold ks l) (to_list-of_list (sorted vs))
      ∙ and-both (rises_weakly (sorted vs) && list_all (member e) (sorted vs)) (mset_attributes_hold ks (sorted vs))
      (and-both (rises_weakly (sorted vs)) (list_all (member e) (sorted vs)) (sorted-rises vs) (sorted-all (member e) vs ∙ ms))
      (attributes-sorted ks vs (ap (set_attributes_hold ks) long ∙ x.sizes) x.occurs))
      (and-both _ _ p.first
      (ap (λ o. is_some_and o (are_orderly whole child (e ∷ []) fs)) u.found
      ∙ and-both _ true (and-both (list_all (λ j. is_orderly r e (behind j c)) (lists_of (one_to n ∷ []))) true
      (ap (list_all (λ j. is_orderly r e (behind j c))) (slots-are (one_to n)) ∙ all-map (λ j. is_orderly r e (behind j c)) as_place (one_to n) ∙ orderly) refl) refl))

  -- Canonical cells of multisets in slots with repeats.
  pub repetition-right : Right repeated (msets ks e)
  repetition-right = record { sound = repeated-sound; unique = repeated-unique; tidies = repeated-tidies }
