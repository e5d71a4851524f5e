-- Members of tuples and records, component by component.
use Rattle.std.proofs.Common.{◌≡◌, refl, sym, ap, ◌∙◌, subst, true, false, ◌&&◌, ◌||◌, List, [], ◌∷◌, ◌++◌, map, take, drop, length, Option, Some, None, option_map, nat_eq, length-append, arith}
use Rattle.std.proofs.lemmas.Bool.{eq-eqb}
use Rattle.ess_semantics.specs.declared.words.ReprKind.{ReprKind}
use Rattle.ess_semantics.specs.Lists.{and_then, is_some_and}
use Rattle.ess_semantics.specs.Values.{Text, a_tuple, a_matrix, a_set, a_mset, a_function, a_relation, a_partition, a_record, Value, number, truth, item, node, Values, nil, cons, to_list, of_list, tuple}
use Rattle.ess_semantics.specs.Order.{same_texts, order_texts}
use Rattle.ess_semantics.specs.Trees.{Reprs, repr, no_reprs, more_reprs}
use Rattle.ess_semantics.specs.Domains.{Domain, Domains, tuples, records, no_domains, more_domains, domain_list}
use Rattle.ess_semantics.specs.Membership.{member, member_of_each}
use Rattle.ess_semantics.specs.Cells.{Cells, Axes, behind}
use Rattle.ess_semantics.specs.Layers.{Layer, Slot, always_canonical, first_of_each}
use Rattle.ess_semantics.specs.ScalarLayers.{each_alone, compound_items}
use Rattle.ess_semantics.specs.Representations.{layer, width, widths, own_width, own_part, child_part, value_of_cells, values_of_children}
use Rattle.ess_semantics.specs.Declarations.{axes_of, declared_own, declarations_of_children, leaves_out}
use Rattle.ess_semantics.specs.Canonical.{Child, canonical_layer, canonical_children, cells_of_children}
use Rattle.ess_semantics.specs.CanonicalTest.{child_is_canonical, children_are_canonical, canonical}
use Rattle.ess_semantics.proofs.Tests.{and-left, and-right, and-both}
use Rattle.ess_semantics.proofs.Orders.{texts_exact, equal-of, of_list-to_list}
use Rattle.ess_repr_laws.proofs.RowsOfCells.{axes_in, axes_of_children, axes-of-layer}
use Rattle.ess_repr_laws.proofs.CanonicalParts.{asked_of, value_of_layer}
use Rattle.ess_repr_laws.proofs.CanonicalPlaces.{all_places}
use Rattle.ess_repr_laws.proofs.Behind.{behind-none}
use Rattle.ess_repr_laws.proofs.ExactCells.{AllExact, exact-length, exact-append}
use Rattle.ess_repr_laws.proofs.SideBySide.{Along}
use Rattle.ess_repr_laws.proofs.PlacedSlots.{placed, placed-exact, placed-behind}
use Rattle.ess_repr_laws.proofs.CellsOfMembers.{InnerInside, compound-inner, HasCells, MembersHaveCells, take-front, drop-front, map-long}

-- Each representation has the canonical cells of its domain's members.
abbrev pub AllHaveCells : Reprs → List Domain → Type 0
AllHaveCells no_reprs [] = Unit {0}
AllHaveCells (more_reprs r rs) (e ∷ es) = MembersHaveCells r e × AllHaveCells rs es
AllHaveCells _ _ = ⊥

module _ (ds : List Domain) (f : Cells → List (List Value) → Option Value) (t : Value → List (List (Option Value))) where
  abbrev whole : Layer
  whole = all_places ds [] f t always_canonical

  record Parted (rs : Reprs) (es : List Domain) (vs : List Value) : Type 0 where
    cs : List Child
    there : canonical_children rs es (each_alone vs) ≡ Some cs
    exact : AllExact (axes_of_children rs es []) (cells_of_children whole cs)
    passes : children_are_canonical whole [] rs es (cells_of_children whole cs) ≡ true
    values : values_of_children rs es (cells_of_children whole cs) ([] ∷ []) ≡ Some (map (λ v. v ∷ []) vs)

  parted : (rs : Reprs) (es : List Domain) (vs : List Value) → AllHaveCells rs es → Along es vs (λ e v. member e v ≡ true) → Parted rs es vs
  parted no_reprs [] [] a h = record { cs = []; there = refl; exact = tt; passes = refl; values = refl }
  parted no_reprs [] (v ∷ vs) a h = absurd h
  parted no_reprs (e ∷ es) vs a h = absurd a
  parted (more_reprs r rs) [] vs a h = absurd a
  parted (more_reprs r rs) (e ∷ es) [] a h = absurd h
  parted (more_reprs r rs) (e ∷ es) (v ∷ vs) a h = go (parted rs es vs a.1 h.1)
    where
      y : HasCells r e v
      y = let x = a.0 in x.of_member v h.0

      ass : List Axes
      ass = axes_of r e

      ss : List (Option Slot)
      ss = Some (v, y.cells) ∷ []

      inner : Cells
      inner = placed ass [] ss

      inner-is : inner ≡ y.cells
      inner-is = let b = placed-behind ass [] ss tt refl (y.exact, tt) in sym (behind-none inner) ∙ b.0

      inner-long : length inner ≡ width r
      inner-long = let x = a.0 in ap length inner-is ∙ exact-length ass y.cells y.exact ∙ x.wide

      go : Parted rs es vs → Parted (more_reprs r rs) (e ∷ es) (v ∷ vs)
      go p = record {
        cs = (ass, ss) ∷ p.cs;
        there = ap (λ o. and_then (and_then o (λ c. option_map (λ ss. Some (v, c) ∷ ss) (Some []))) (λ ss. option_map (λ cs. (ass, ss) ∷ cs) (canonical_children rs es (each_alone vs)))) y.there
            ∙ ap (option_map (λ cs. (ass, ss) ∷ cs)) p.there;
        exact = exact-append (map (λ as'. [] ++ as') ass) (axes_of_children rs es []) inner rest (placed-exact ass [] ss refl (y.exact, tt)) p.exact;
        passes = ap (λ c. child_is_canonical whole [] ass (canonical r e) c && children_are_canonical whole [] rs es (drop (width r) (inner ++ rest))) (take-front (width r) inner rest inner-long ∙ inner-is)
            ∙ ap (λ c. child_is_canonical whole [] ass (canonical r e) y.cells && children_are_canonical whole [] rs es c) (drop-front (width r) inner rest inner-long)
            ∙ and-both (child_is_canonical whole [] ass (canonical r e) y.cells) (children_are_canonical whole [] rs es rest) asked p.passes;
        values = ap (λ c. and_then (and_then (value_of_cells r e (behind [] c)) (λ y. option_map (λ ys. y ∷ ys) (Some []))) (λ vs. option_map (λ vss. vs ∷ vss) (values_of_children rs es (drop (width r) (inner ++ rest)) ([] ∷ [])))) (take-front (width r) inner rest inner-long ∙ inner-is)
            ∙ ap (λ o. and_then (and_then o (λ y. option_map (λ ys. y ∷ ys) (Some []))) (λ vs. option_map (λ vss. vs ∷ vss) (values_of_children rs es (drop (width r) (inner ++ rest)) ([] ∷ [])))) (ap (value_of_cells r e) (behind-none y.cells) ∙ y.stands)
            ∙ ap (λ c. option_map (λ vss. (v ∷ []) ∷ vss) (values_of_children rs es c ([] ∷ []))) (drop-front (width r) inner rest inner-long) ∙ ap (option_map (λ vss. (v ∷ []) ∷ vss)) p.values;
      }
        where
          rest : Cells
          rest = cells_of_children whole p.cs

          asked : child_is_canonical whole [] ass (canonical r e) y.cells ≡ true
          asked =
              let n = eq-eqb (length y.cells) (length ass) (exact-length ass y.cells y.exact) in
              let q : canonical r e (behind [] y.cells) ≡ true = ap (canonical r e) (behind-none y.cells) ∙ y.passes in
              and-both ((nat_eq (length y.cells) (length ass) && (canonical r e (behind [] y.cells) && true)) && true) true
              (and-both (nat_eq (length y.cells) (length ass) && (canonical r e (behind [] y.cells) && true)) true (and-both (nat_eq (length y.cells) (length ass)) (canonical r e (behind [] y.cells) && true) n (ap (λ b. b && true) q)) refl) refl

  children-wide : (rs : Reprs) (es : List Domain) → AllHaveCells rs es → length (axes_of_children rs es []) ≡ widths rs
  children-wide no_reprs [] a = refl
  children-wide no_reprs (e ∷ es) a = absurd a
  children-wide (more_reprs r rs) [] a = absurd a
  children-wide (more_reprs r rs) (e ∷ es) a =
      let x = a.0 in
      let l = length-append (map (λ as'. [] ++ as') (axes_of r e)) (axes_of_children rs es []) in
      let m : length (map (λ (as' : Axes). [] ++ as') (axes_of r e)) ≡ width r = map-long (λ (as' : Axes). [] ++ as') (axes_of r e) ∙ x.wide in
      let n = children-wide rs es a.1 in omega (arith, l, m, n)

  module _ (k : ReprKind) (d : Domain) (rs : Reprs) (at : layer k d ≡ Some whole) (ow : 0 ≡ own_width k) (all : AllHaveCells rs ds) where
    axes : axes_of (repr k rs) d ≡ axes_of_children rs ds []
    axes =
        ap (λ o. axes_in (elim o [ None ↦ [] | Some l ↦ map (declared_own false) l.own ++ declarations_of_children (false || leaves_out l.in_use) rs l.children l.axes ])) at
        ∙ axes-of-layer whole rs

    -- A layer of components has as many lists of axes as tables.
    pub compound-wide : length (axes_of (repr k rs) d) ≡ width (repr k rs)
    compound-wide = let n = children-wide rs ds all in let m = ap length axes in omega (arith, n, m, ow)

    -- A value of components has canonical cells where each component is a member.
    pub compound-cells : (v : Value) (vs : List Value) → t v ≡ each_alone vs → Along ds vs (λ e v. member e v ≡ true) → f [] (map (λ v. v ∷ []) vs) ≡ Some v → InnerInside (repr k rs) d v → HasCells (repr k rs) d v
    compound-cells v vs e h b inner = go (parted rs ds vs all h)
      where
        go : Parted rs ds vs → HasCells (repr k rs) d v
        go p = record {
          cells = c;
          there = ap (λ o. and_then o (λ l. option_map (canonical_layer l v) (canonical_children rs l.children (l.contents v)))) at
              ∙ ap (λ l. option_map (canonical_layer whole v) (canonical_children rs ds l)) e ∙ ap (option_map (canonical_layer whole v)) p.there;
          exact = subst (λ l. AllExact l c) (sym axes) p.exact;
          passes = ap (λ o. is_some_and o (λ l. asked_of l rs (own_part k c) (child_part k c))) at ∙ ap (λ n. asked_of whole rs (take n c) (drop n c)) (sym ow)
              ∙ and-both ((true && true) && children_are_canonical whole [] rs ds c) (is_some_and (values_of_children rs ds c ([] ∷ [])) (λ vss. true)) p.passes (ap (λ o. is_some_and o (λ vss. true)) p.values);
          stands = ap (λ o. and_then o (λ l. value_of_layer l rs (own_part k c) (child_part k c))) at ∙ ap (λ n. value_of_layer whole rs (take n c) (drop n c)) (sym ow)
              ∙ ap (λ o. and_then o (f [])) p.values ∙ b;
          inner = inner;
        }
          where
            c : Cells
            c = cells_of_children whole p.cs

first-alone : (vs : List Value) → first_of_each (map (λ v. v ∷ []) vs) ≡ vs
first-alone [] = refl
first-alone (v ∷ vs) = ap (λ l. v ∷ l) (first-alone vs)

each-member : (ds : Domains) (vs : Values) → member_of_each ds vs ≡ true → Along (domain_list ds) (to_list vs) (λ e v. member e v ≡ true)
each-member no_domains nil h = tt
each-member no_domains (cons v vs) h = cc
each-member (more_domains d ds) nil h = cc
each-member (more_domains d ds) (cons v vs) h = (and-left (member d v) (member_of_each ds vs) h, each-member ds vs (and-right (member d v) (member_of_each ds vs) h))

-- ---- tuples

module _ (rs : Reprs) (ds : Domains) (all : AllHaveCells rs (domain_list ds)) where
  abbrev tuple_built : Cells → List (List Value) → Option Value
  tuple_built c vss = Some (tuple (of_list (first_of_each vss)))

  abbrev compound_contents : Value → List (List (Option Value))
  compound_contents v = each_alone (compound_items v)

  tuple-cells : (v : Value) → member (tuples ds) v ≡ true → HasCells (repr ReprKind.Tuple rs) (tuples ds) v
  tuple-cells (node a_tuple vs) h =
      compound-cells (domain_list ds) tuple_built compound_contents ReprKind.Tuple (tuples ds) rs refl refl all (tuple vs) (to_list vs) refl (each-member ds vs h)
      (ap (λ l. Some (tuple (of_list l))) (first-alone (to_list vs)) ∙ ap (λ w. Some (tuple w)) (of_list-to_list vs))
      (compound-inner ReprKind.Tuple rs (tuples ds) (tuple vs) refl)
  tuple-cells (number n) h = cc
  tuple-cells (truth b) h = cc
  tuple-cells (item t k) h = cc
  tuple-cells (node a_matrix vs) h = cc
  tuple-cells (node a_set vs) h = cc
  tuple-cells (node a_mset vs) h = cc
  tuple-cells (node a_function vs) h = cc
  tuple-cells (node a_relation vs) h = cc
  tuple-cells (node a_partition vs) h = cc
  tuple-cells (node (a_record fs) vs) h = cc

  -- Members of tuples.
  pub tuple-members : MembersHaveCells (repr ReprKind.Tuple rs) (tuples ds)
  tuple-members = record { wide = compound-wide (domain_list ds) tuple_built compound_contents ReprKind.Tuple (tuples ds) rs refl refl all; of_member = tuple-cells }

  -- ---- records

  module _ (fs : List Text) where
    abbrev record_built : Cells → List (List Value) → Option Value
    record_built c vss = Some (node (a_record fs) (of_list (first_of_each vss)))

    record-cells : (v : Value) → member (records fs ds) v ≡ true → HasCells (repr ReprKind.Rec rs) (records fs ds) v
    record-cells (node (a_record gs) vs) h =
        let e : fs ≡ gs = texts_exact fs gs (equal-of (order_texts fs gs) (and-left (same_texts fs gs) (member_of_each ds vs) h)) in
        subst (λ us. HasCells (repr ReprKind.Rec rs) (records fs ds) (node (a_record us) vs)) e
        (compound-cells (domain_list ds) record_built compound_contents ReprKind.Rec (records fs ds) rs refl refl all (node (a_record fs) vs) (to_list vs) refl (each-member ds vs (and-right (same_texts fs gs) (member_of_each ds vs) h))
        (ap (λ l. Some (node (a_record fs) (of_list l))) (first-alone (to_list vs)) ∙ ap (λ w. Some (node (a_record fs) w)) (of_list-to_list vs))
        (compound-inner ReprKind.Rec rs (records fs ds) (node (a_record fs) vs) refl))
    record-cells (number n) h = cc
    record-cells (truth b) h = cc
    record-cells (item t k) h = cc
    record-cells (node a_tuple vs) h = cc
    record-cells (node a_matrix vs) h = cc
    record-cells (node a_set vs) h = cc
    record-cells (node a_mset vs) h = cc
    record-cells (node a_function vs) h = cc
    record-cells (node a_relation vs) h = cc
    record-cells (node a_partition vs) h = cc

    -- Members of records.
    pub record-members : MembersHaveCells (repr ReprKind.Rec rs) (records fs ds)
    record-members = record { wide = compound-wide (domain_list ds) record_built compound_contents ReprKind.Rec (records fs ds) rs refl refl all; of_member = record-cells }
