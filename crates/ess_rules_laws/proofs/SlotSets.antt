-- A set kept in slots: what its tidy cells stand for, slot by slot.
use Rattle.std.proofs.Common.{◌≡◌, refl, sym, ap, ◌∙◌, ℕ, ◌≤◌, Bool, true, false, ◌&&◌, List, [], ◌∷◌, ◌++◌, take, length, ℤ, Option, Some, None, option_map, arith}
use Rattle.std.specs.List.{list_all}
use Rattle.ess_semantics.specs.declared.words.ReprKind.{ReprKind}
use Rattle.ess_semantics.specs.Lists.{and_then, each_of, is_some_and}
use Rattle.ess_semantics.specs.Values.{Value, itself}
use Rattle.ess_semantics.specs.Collections.{no_twice, set_of, sorted_once}
use Rattle.ess_semantics.specs.Numbers.{one_to}
use Rattle.ess_semantics.specs.Trees.{Repr, repr, no_reprs, more_reprs}
use Rattle.ess_semantics.specs.Domains.{Attribute, Domain, sets, lists_of}
use Rattle.ess_semantics.specs.Membership.{member}
use Rattle.ess_semantics.specs.Tables.{Tables}
use Rattle.ess_semantics.specs.Cells.{Cells, behind, cells_at}
use Rattle.ess_semantics.specs.Layers.{Layer, Use, OwnTable, Slot, only_child}
use Rattle.ess_semantics.specs.SetLayers.{slots_layer}
use Rattle.ess_semantics.specs.Representations.{layer, width, own_part, child_part, places_by, places_in_use, values_of_children, value_of_cells, value_of_tables}
use Rattle.ess_semantics.specs.Declarations.{axes_of}
use Rattle.ess_semantics.specs.CanonicalTest.{in_use_first}
use Rattle.ess_semantics.specs.Tidy.{tidy_cells, is_orderly, are_orderly, over_axes, tidy}
use Rattle.ess_semantics.proofs.Tests.{and-left, and-right, and-both}
use Rattle.ess_semantics.proofs.Orders.{to_list-of_list}
use Rattle.ess_semantics.proofs.Sorting.{all-sorted_once}
use Rattle.ess_rules_laws.proofs.TablesOfViews.{cells-append, take-all, cells-long}

no : {A : Type 0} → false ≡ true → A
no h = cc

-- The value in a slot.
abbrev pub In : Repr → Domain → Cells → List ℤ → Option Value
In r d child j = value_of_cells r d (behind j (take (width r) child))

-- Whether the cells of a slot are orderly.
abbrev pub orderly_in : Repr → Domain → Cells → List ℤ → Bool
orderly_in r d child j = is_orderly r d (behind j (take (width r) child))

module _ (k : ReprKind) (r : Repr) (ks : List Attribute) (d : Domain) (n : ℕ) (u : Use) (own : List OwnTable) (ot : Value →
    List (Option Slot) → Tables) (cn : Cells → List (List Value) → Bool) where
  -- The layer.
  abbrev pub Slots : Layer
  Slots = record (slots_layer n d u) {
    own = own;
    own_tables = ot;
    is_canonical = cn;
  }

  abbrev R : Repr
  R = repr k (more_reprs r no_reprs)

  abbrev D : Domain
  D = sets ks d

  -- What tidy cells stand for: the places in use and the values there.
  pub record SlotsStand (c : Cells) : Type 0 where
    pub js : List (List ℤ)
    pub vs : List Value
    pub places : places_by u (own_part k c) (lists_of (one_to n ∷ [])) ≡ Some js
    pub values : each_of js (In r d (child_part k c)) ≡ Some vs
    pub is_value : value_of_cells R D c ≡ Some (set_of vs)
    pub members : list_all (member d) vs ≡ true
    pub differ : no_twice itself vs ≡ true
    pub orderly : list_all (orderly_in r d (child_part k c)) js ≡ true

  module _ (is_layer : layer k (sets ks d) ≡ Some Slots) (c : Cells) where
    abbrev Built : Option (List (List ℤ)) → Option Value
    Built o = and_then o (λ js. and_then (values_of_children (more_reprs r no_reprs) (d ∷ []) (child_part k c) js)
        (λ vss. Some (set_of (only_child vss))))

    value-is : value_of_cells R D c ≡ Built (places_by u (own_part k c) (lists_of (one_to n ∷ [])))
    value-is = ap (λ o. and_then o (λ l. and_then (places_in_use l (own_part k c))
        (λ js. and_then (values_of_children (more_reprs r no_reprs) l.children (child_part k c) js) (l.built (own_part k c))))) is_layer

    abbrev Orderly : Option (List (List ℤ)) → Bool
    Orderly o = is_some_and o (are_orderly Slots (more_reprs r no_reprs) (d ∷ []) (child_part k c))

    orderly-is : is_orderly R D c ≡ (Slots.is_tidy (own_part k c) && in_use_first Slots (own_part k c) && Orderly
        (places_by u (own_part k c) (lists_of (one_to n ∷ []))))
    orderly-is = ap (λ o. is_some_and o (λ l. l.is_tidy (own_part k c) && in_use_first l (own_part k c) &&
        is_some_and (places_in_use l (own_part k c)) (are_orderly l (more_reprs r no_reprs) l.children (child_part k c)))) is_layer

    pub slots-stand : tidy_cells R D c ≡ true → SlotsStand c
    slots-stand h = go (places_by u (own_part k c) (lists_of (one_to n ∷ []))) refl
        (sym (ap (λ o. is_some_and o (member D)) value-is) ∙ and-left (is_some_and (value_of_cells R D c) (member D)) _ h)
        (and-right (Slots.is_tidy (own_part k c) && in_use_first Slots (own_part k c)) _ (sym orderly-is
        ∙ and-right _ (is_orderly R D c) h))
      where
        inner : (js : List (List ℤ)) (o : Option (List Value)) → places_by u (own_part k c) (lists_of (one_to n ∷ [])) ≡ Some js →
            each_of js (In r d (child_part k c)) ≡ o →
            is_some_and (and_then (and_then o (λ vs. option_map (λ vss. vs ∷ vss) (Some []))) (λ vss. Some (set_of (only_child vss))))
            (member D) ≡ true →
            are_orderly Slots (more_reprs r no_reprs) (d ∷ []) (child_part k c) js ≡ true → SlotsStand c
        inner js None p q m y = no m
        inner js (Some vs) p q m y = record {
          js = js;
          vs = vs;
          places = p;
          values = q;
          is_value = value-is ∙ ap Built p ∙ ap (λ o. and_then (and_then o (λ vs. option_map (λ vss. vs ∷ vss) (Some [])))
              (λ vss. Some (set_of (only_child vss)))) q;
          members = sym (ap (list_all (member d)) (to_list-of_list (sorted_once vs)) ∙ all-sorted_once (member d) vs)
              ∙ and-right _ _ (and-left _ _ m);
          differ = sym (ap (λ o. is_some_and o (no_twice itself)) q) ∙ and-right _ _ (and-left _ _ y);
          orderly = and-left _ _ (and-left _ _ y);
        }

        go : (o : Option (List (List ℤ))) → places_by u (own_part k c) (lists_of (one_to n ∷ [])) ≡ o → is_some_and (Built o) (member D) ≡
            true → Orderly o ≡ true → SlotsStand c
        go None p m y = no m
        go (Some js) p m y = inner js (each_of js (In r d (child_part k c))) p refl m y

-- ---- one slot

-- The value in a slot is that of the tables at one more index.
module _ (r : Repr) (d : Domain) (ts : Tables) (i : List ℤ) (short : length ts ≤ width r) where
  all-taken : take (width r) (cells_at ts i) ≡ cells_at ts i
  all-taken = take-all (width r) (cells_at ts i) (let e = cells-long ts i in omega arith)

  pub slot-cells : (k : ℤ) → behind (k ∷ []) (take (width r) (cells_at ts i)) ≡ cells_at ts (i ++ (k ∷ []))
  slot-cells k = ap (behind (k ∷ [])) all-taken ∙ sym (cells-append ts i (k ∷ []))

  pub slot-value : (k : ℤ) → value_of_cells r d (behind (k ∷ []) (take (width r) (cells_at ts i))) ≡ value_of_tables r d ts (i ++ (k ∷ []))
  slot-value k = ap (value_of_cells r d) (slot-cells k)

  -- It is tidy there.
  pub slot-tidy : (k : ℤ) (v : Value) → over_axes (i ++ (k ∷ [])) (axes_of r d) ts ≡ true →
      value_of_cells r d (behind (k ∷ []) (take (width r) (cells_at ts i))) ≡ Some v → member d v ≡ true →
      is_orderly r d (behind (k ∷ []) (take (width r) (cells_at ts i))) ≡ true → tidy r d ts (i ++ (k ∷ [])) ≡ true
  slot-tidy k v a q m o = and-both (over_axes (i ++ (k ∷ [])) (axes_of r d) ts) (tidy_cells r d (cells_at ts (i ++ (k ∷ [])))) a
      (and-both (is_some_and (value_of_tables r d ts (i ++ (k ∷ []))) (member d)) (is_orderly r d (cells_at ts (i ++ (k ∷ []))))
      (ap (λ o. is_some_and o (member d)) (sym (slot-value k) ∙ q) ∙ m) (sym (ap (is_orderly r d) (slot-cells k)) ∙ o))
