-- One layer of partitions, down and up, under what callers know.
use Rattle.std.proofs.Common.{◌≡◌, refl, sym, ap, ℕ, suc, true, if◌then◌else◌, List, [], ◌∷◌}
use Rattle.std.proofs.Common.{map, length, drop, pos, Some}
use Rattle.ess_semantics.specs.declared.words.ReprKind.{ReprKind}
use Rattle.ess_semantics.specs.Lists.{and_then, only_of}
use Rattle.ess_semantics.specs.Values.{Value, items_of}
use Rattle.ess_semantics.specs.Collections.{holds}
use Rattle.ess_semantics.specs.Trees.{Reprs, repr, no_reprs, more_reprs}
use Rattle.ess_semantics.specs.Domains.{Attribute, Domain, partitions, member_list}
use Rattle.ess_semantics.specs.Sizes.{child_parts}
use Rattle.ess_semantics.specs.Tables.{Tables, one_cell, row_of}
use Rattle.ess_semantics.specs.Cells.{Axes}
use Rattle.ess_semantics.specs.Layers.{codes_of}
use Rattle.ess_semantics.specs.PartitionLayers.{partition_from_numbers, part_number, partition_from}
use Rattle.ess_semantics.specs.Declarations.{axes_of}
use Rattle.ess_semantics.specs.OneLayer.{layer_tables, layer_value}
use Rattle.ess_semantics.specs.Tidy.{over_axes}
use Rattle.ess_semantics.proofs.MemberLists.{atom-listed}
use Rattle.ess_repr_laws.specs.Rooms.{Covered}
use Rattle.ess_repr_laws.proofs.Arguments.{atom-arguments}
use Rattle.ess_repr_laws.proofs.AxesOfTables.{axes-differ}
use Rattle.ess_repr_laws.proofs.CanonicalPlaces.{AllOf}
use Rattle.ess_repr_rows_laws.specs.Cutting.{first_items}
use Rattle.ess_repr_rows_laws.proofs.LayerValues.{partition-occurrence-value}
use Rattle.ess_repr_rows_laws.proofs.OwnLayers.{partition-occurrence-rows}
use Rattle.ess_repr_rows_laws.proofs.ArgumentLayers.{partition-as-set-rows}
use Rattle.ess_repr_sets.specs.PartTables.{PartsFit}
use Rattle.ess_repr_relations.specs.PartNumbers.{list_number}
use Rattle.ess_repr_sets.proofs.OverDeclared.{first-over, rest-over, each-over}

-- ---- numbers of parts

-- The number of the part is that of its list of members.
pub number-of-list : (k : ℕ) (ps : List Value) (x : Value) → list_number k (map items_of ps) x ≡ part_number k ps x
number-of-list k [] x = refl
number-of-list k (p ∷ ps) x = ap (λ n. if holds (items_of p) x then pos k else n) (number-of-list (suc k) ps x)

-- ---- by the numbers of parts

module _ (ks : List Attribute) (e : Domain) where
  pub numbers-down : (v : Value) (tss : List Tables) (rs : Reprs) → Covered (repr ReprKind.PartitionOccurrence rs) (partitions ks e) →
      Some (one_cell (pos (length (items_of v))) ∷ row_of (codes_of e) (map (part_number 1 (items_of v)) (member_list e)) ∷ []) ≡
      layer_tables (repr ReprKind.PartitionOccurrence rs) (partitions ks e) v tss
  numbers-down v tss (more_reprs r rs) c = absurd c
  numbers-down v tss no_reprs c =
      let d = axes-differ (repr ReprKind.PartitionOccurrence no_reprs) (partitions ks e) c in
      sym (partition-occurrence-rows ks e d.1.0 v tss)

  pub numbers-up : (ts : Tables) (vs : List Value) (rs : Reprs) → Covered (repr ReprKind.PartitionOccurrence rs) (partitions ks e) →
      over_axes [] (axes_of (repr ReprKind.PartitionOccurrence rs) (partitions ks e)) ts ≡ true →
      and_then (only_of (first_items ts)) (partition_from_numbers (member_list e)
      (first_items (drop 1 ts))) ≡ layer_value ReprKind.PartitionOccurrence (partitions ks e) ts vs
  numbers-up ts vs (more_reprs r rs) c h = absurd c
  numbers-up ts vs no_reprs c h = go ts h
    where
      a : Axes
      a = codes_of e ∷ []

      go : (ts : Tables) → over_axes [] ([] ∷ a ∷ []) ts ≡ true →
          and_then (only_of (first_items ts)) (partition_from_numbers (member_list e)
          (first_items (drop 1 ts))) ≡ layer_value ReprKind.PartitionOccurrence (partitions ks e) ts vs
      go [] h = cc
      go (n ∷ []) h = let z = rest-over [] (a ∷ []) n [] h in cc
      go (n ∷ t ∷ u ∷ ts) h = let z = rest-over a [] t (u ∷ ts) (rest-over [] (a ∷ []) n (t ∷ u ∷ ts) h) in cc
      go (n ∷ t ∷ []) h =
          let d = axes-differ (repr ReprKind.PartitionOccurrence no_reprs) (partitions ks e) c in
          let o = first-over [] (a ∷ []) n (t ∷ []) h in
          sym (partition-occurrence-value ks e n t vs (atom-arguments e (atom-listed e c)) d.1.0 o.over (first-over a [] t [] (rest-over []
          (a ∷ []) n (t ∷ []) h)))

  -- ---- as a set

  pub parts-down : (v : Value) (ass : List Axes) (tss : List Tables) (rs : Reprs) →
      Covered (repr ReprKind.PartitionAsSet rs) (partitions ks e) →
      PartsFit ReprKind.PartitionAsSet rs (partitions ks e) v ass tss →
      only_of tss ≡ layer_tables (repr ReprKind.PartitionAsSet rs) (partitions ks e) v tss
  parts-down v ass tss no_reprs c h = absurd c
  parts-down v ass tss (more_reprs r (more_reprs s rs)) c h = absurd c
  parts-down v ass tss (more_reprs r no_reprs) c h = go tss h.count (each-over (axes_of r (child_parts ks e)) ass tss h.axes h.over)
    where
      go : (tss : List Tables) → length tss ≡ 1 → AllOf tss (λ ts. over_axes [] (axes_of r (child_parts ks e)) ts ≡ true) →
          only_of tss ≡ layer_tables (repr ReprKind.PartitionAsSet (more_reprs r no_reprs)) (partitions ks e) v tss
      go [] e' o = cc
      go (ts ∷ us ∷ tss) e' o = cc
      go (ts ∷ []) e' o = sym (partition-as-set-rows r v ts ks e (axes-differ r (child_parts ks e) c) o.0)

  pub parts-up : (ts : Tables) (vs : List Value) →
      and_then (only_of vs) partition_from ≡ layer_value ReprKind.PartitionAsSet (partitions ks e) ts vs
  parts-up ts vs = refl
