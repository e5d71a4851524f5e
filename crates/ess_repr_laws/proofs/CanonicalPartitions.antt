-- Partitions as sets of sets are right where the child's representation is.
use Rattle.std.proofs.Common.{◌≡◌, refl, sym, ap, ◌∙◌, Bool, true, false, ◌&&◌, not, List, [], ◌∷◌, take, drop, Option, Some}
use Rattle.std.specs.List.{list_all}
use Rattle.ess_semantics.specs.declared.words.ReprKind.{ReprKind}
use Rattle.ess_semantics.specs.Lists.{and_then, is_empty, only_of, is_some_and}
use Rattle.ess_semantics.specs.Values.{a_set, a_partition, Value, node, Values, to_list, of_list, itself, items_of}
use Rattle.ess_semantics.specs.Collections.{sorted_once, rises, has_empty_part, has_overlap, partition_of}
use Rattle.ess_semantics.specs.Trees.{Repr, repr, no_reprs, more_reprs}
use Rattle.ess_semantics.specs.Domains.{Attribute, Domain, sets, partitions, members}
use Rattle.ess_semantics.specs.Attributes.{partition_attributes_hold}
use Rattle.ess_semantics.specs.Membership.{is_part, covers, member}
use Rattle.ess_semantics.specs.Sizes.{child_parts}
use Rattle.ess_semantics.specs.Cells.{Cells, rows}
use Rattle.ess_semantics.specs.Layers.{only_child}
use Rattle.ess_semantics.specs.PartitionLayers.{is_partition_of, partition_from, partition_as_set_layer}
use Rattle.ess_semantics.specs.Representations.{value_of_cells}
use Rattle.ess_semantics.specs.Declarations.{axes_of}
use Rattle.ess_semantics.specs.CanonicalTest.{canonical}
use Rattle.ess_semantics.specs.Tidy.{tidy_cells}
use Rattle.ess_repr_laws.specs.CanonicalTables.{Right}
use Rattle.ess_semantics.proofs.Tests.{and-left, and-right, and-both, some-and, or-left-no, or-right-no, not-true}
use Rattle.ess_semantics.proofs.Orders.{of_list-to_list}
use Rattle.ess_semantics.proofs.Sorting.{sorted_once-itself}
use Rattle.ess_repr_laws.proofs.RowsOfCells.{axes-of-layer}
use Rattle.ess_repr_laws.proofs.CanonicalRelations.{OneValue, one-value, value-once, value-orderly}
use Rattle.ess_repr_laws.proofs.CanonicalConversions.{keys_of, set-member-form, when-some}

no-empty : (ps : List Value) → has_empty_part ps ≡ false → list_all (λ p. not (is_empty (items_of p))) ps ≡ true
no-empty [] h = refl
no-empty (p ∷ ps) h =
    and-both (not (is_empty (items_of p))) _ (ap not (or-left-no (is_empty (items_of p)) (has_empty_part ps) h)) (no-empty ps (or-right-no (is_empty (items_of p)) (has_empty_part ps) h))

part-of-set : (ks : List Attribute) (d : Domain) (p : Value) → member (sets ks d) p ≡ true → not (is_empty (items_of p)) ≡ true → is_part (member d) p ≡ true
part-of-set ks d p h e =
    let s = set-member-form ks d p h in
    ap (is_part (member d)) s.1
    ∙ and-both (rises itself (to_list s.0) && not (is_empty (to_list s.0))) (list_all (member d) (to_list s.0))
    (and-both (rises itself (to_list s.0)) (not (is_empty (to_list s.0))) s.2 (ap (λ v. not (is_empty (items_of v))) (sym s.1) ∙ e)) s.3

parts-of-sets : (ks : List Attribute) (d : Domain) (ps : List Value) → list_all (member (sets ks d)) ps ≡ true → list_all (λ p. not (is_empty (items_of p))) ps ≡ true → list_all (is_part (member d)) ps ≡ true
parts-of-sets ks d [] h e = refl
parts-of-sets ks d (p ∷ ps) h e =
    and-both (is_part (member d) p) (list_all (is_part (member d)) ps)
    (part-of-set ks d p (and-left (member (sets ks d) p) (list_all (member (sets ks d)) ps) h) (and-left (not (is_empty (items_of p))) (list_all (λ p. not (is_empty (items_of p))) ps) e))
    (parts-of-sets ks d ps (and-right (member (sets ks d) p) (list_all (member (sets ks d)) ps) h) (and-right (not (is_empty (items_of p))) (list_all (λ p. not (is_empty (items_of p))) ps) e))

-- the inner domain of a set, and its attributes
abbrev inner_of : Domain → Domain
inner_of (sets ks d) = d
inner_of d = d

module _ (r : Repr) (ks : List Attribute) (d : Domain) (right : Right r (child_parts ks d)) where
  abbrev as_sets : Repr
  as_sets = repr ReprKind.PartitionAsSet (more_reprs r no_reprs)

  abbrev part_set : Value → List (List (Option Value))
  part_set v = (Some (node a_set (of_list (items_of v))) ∷ []) ∷ []

  abbrev asked_parts : Cells → List (List Value) → Bool
  asked_parts x vss = is_some_and (and_then (only_of (only_child vss)) partition_from) (λ v. is_partition_of ks d (items_of v))

  record PartsOf (x : Cells) : Type 0 where
    one : OneValue r (child_parts ks d) right partition_from part_set asked_parts (take 0 x) (drop 0 x)
    ps : Values
    form : one.v ≡ node a_set ps
    sorted : rises itself (to_list ps) ≡ true
    parts : list_all (is_part (member d)) (to_list ps) ≡ true
    apart : not (has_overlap (to_list ps)) ≡ true
    value : value_of_cells as_sets (partitions ks d) x ≡ Some (node a_partition ps)
    attributes : is_partition_of ks d (to_list ps) ≡ true

  parts-of-cells : (x : Cells) → canonical as_sets (partitions ks d) x ≡ true → PartsOf x
  parts-of-cells x h =
      let o = one-value r (child_parts ks d) right partition_from part_set asked_parts (take 0 x) (drop 0 x) h in
      let s = set-member-form (keys_of (child_parts ks d)) (inner_of (child_parts ks d)) o.v o.member_of in
      let a = some-and (partition_of (to_list s.0)) (λ v. is_partition_of ks d (items_of v)) (ap (λ v. is_some_and (partition_from v) (λ w. is_partition_of ks d (items_of w))) (sym s.1) ∙ o.attributes) in
      let w = when-some (not (has_empty_part (to_list s.0)) && not (has_overlap (to_list s.0))) (node a_partition (of_list (sorted_once (to_list s.0)))) a.0 a.1 in
      let own : sorted_once (to_list s.0) ≡ to_list s.0 = sorted_once-itself (to_list s.0) s.2 in
      let f : a.0 ≡ node a_partition s.0 = sym w.1 ∙ ap (λ l. node a_partition (of_list l)) own ∙ ap (node a_partition) (of_list-to_list s.0) in
      record {
        one = o;
        ps = s.0;
        form = s.1;
        sorted = s.2;
        parts = parts-of-sets (keys_of (inner_of (child_parts ks d))) d (to_list s.0) s.3 (no-empty (to_list s.0) (not-true (has_empty_part (to_list s.0)) (and-left (not (has_empty_part (to_list s.0))) (not (has_overlap (to_list s.0))) w.0)));
        apart = and-right (not (has_empty_part (to_list s.0))) (not (has_overlap (to_list s.0))) w.0;
        value = o.value ∙ ap partition_from s.1 ∙ a.1 ∙ ap Some f;
        attributes = ap (λ v. is_partition_of ks d (items_of v)) (sym f) ∙ a.2;
      }

  -- Canonical cells of partitions as sets of parts.
  pub partition-as-set-right : Right as_sets (partitions ks d)
  partition-as-set-right = record { sound = λ x h. let y = parts-of-cells x h in (node a_partition y.ps, y.value); unique = unique'; tidies = tidies' }
    where
      unique' : (x x' : Cells) → canonical as_sets (partitions ks d) x ≡ true → canonical as_sets (partitions ks d) x' ≡ true →
          value_of_cells as_sets (partitions ks d) x ≡ value_of_cells as_sets (partitions ks d) x' → rows (axes_of as_sets (partitions ks d)) x ≡ rows (axes_of as_sets (partitions ks d)) x'
      unique' x x' h h' q =
          let y = parts-of-cells x h in
          let y' = parts-of-cells x' h' in
          let e : Some (node a_partition y.ps) ≡ Some (node a_partition y'.ps) = sym y.value ∙ q ∙ y'.value in
          let s : y.ps ≡ y'.ps = cc in
          ap (λ a. rows a x) (axes-of-layer (partition_as_set_layer ks d) (more_reprs r no_reprs))
          ∙ value-once r (child_parts ks d) right partition_from part_set asked_parts (take 0 x) (take 0 x') (drop 0 x) (drop 0 x') y.one y'.one (y.form ∙ ap (node a_set) s ∙ sym y'.form)
          ∙ sym (ap (λ a. rows a x') (axes-of-layer (partition_as_set_layer ks d) (more_reprs r no_reprs)))

      tidies' : (x : Cells) → canonical as_sets (partitions ks d) x ≡ true → tidy_cells as_sets (partitions ks d) x ≡ true
      tidies' x h =
          let y = parts-of-cells x h in
          let l = to_list y.ps in
          and-both (is_some_and (value_of_cells as_sets (partitions ks d) x) (member (partitions ks d))) _
          (ap (λ v. is_some_and v (member (partitions ks d))) y.value
          ∙ and-both (rises itself l && list_all (is_part (member d)) l && not (has_overlap l) && covers (members d) l) (partition_attributes_hold ks l)
          (and-both (rises itself l && list_all (is_part (member d)) l && not (has_overlap l)) (covers (members d) l)
          (and-both (rises itself l && list_all (is_part (member d)) l) (not (has_overlap l)) (and-both (rises itself l) (list_all (is_part (member d)) l) y.sorted y.parts) y.apart)
          (and-left (covers (members d) l) (partition_attributes_hold ks l) y.attributes))
          (and-right (covers (members d) l) (partition_attributes_hold ks l) y.attributes))
          (value-orderly r (child_parts ks d) right partition_from part_set asked_parts (take 0 x) (drop 0 x) y.one)
