-- What the calls by kind have to say of partitions, in the form in which it is asked.
use Rattle.std.proofs.Common.{◌≡◌, ap, ◌∙◌, true, List, [], ◌∷◌, map, length, drop, pos, Option, Some, option_map}
use Rattle.ess_semantics.specs.declared.words.ReprKind.{ReprKind}
use Rattle.ess_semantics.specs.Lists.{and_then, only_of}
use Rattle.ess_semantics.specs.Values.{Value, a_set, node, of_list, items_of}
use Rattle.ess_semantics.specs.Trees.{Reprs, repr}
use Rattle.ess_semantics.specs.Domains.{Attribute, Domain, partitions, member_list}
use Rattle.ess_semantics.specs.Tables.{Tables, one_cell, row_of}
use Rattle.ess_semantics.specs.Cells.{Axes}
use Rattle.ess_semantics.specs.Layers.{codes_of}
use Rattle.ess_semantics.specs.PartitionLayers.{partition_from, partition_from_numbers, part_number}
use Rattle.ess_semantics.specs.Representations.{layer}
use Rattle.ess_semantics.specs.Declarations.{axes_of}
use Rattle.ess_semantics.specs.OneLayer.{inner_values, layer_tables, layer_value}
use Rattle.ess_semantics.specs.Tidy.{over_axes}
use Rattle.ess_core.specs.declared.values.Val.{Val}
use Rattle.ess_core.specs.declared.tables.Table.{Table}
use Rattle.ess_core.specs.ValueViews.{pure_val}
use Rattle.ess_core.specs.TableViews.{pure_table}
use Rattle.ess_repr_laws.specs.Rooms.{Covered}
use Rattle.ess_repr_rows_laws.specs.Cutting.{first_items}
use Rattle.ess_repr_tables.specs.SlotViews.{pure_tables}
use Rattle.ess_repr_sets.specs.PartTables.{PartsFit}
use Rattle.ess_repr_relations.proofs.PartitionLaws.{numbers-down, numbers-up, parts-down, parts-up}

-- The set of the parts.
pub part_sets : (xs : List Val) (v : Value) → map pure_val xs ≡ node a_set (of_list (items_of v)) ∷ [] →
    (ks : List Attribute) (e : Domain) →
    option_map (map pure_val) (Some xs) ≡ option_map (λ l. inner_values l v) (layer ReprKind.PartitionAsSet (partitions ks e))
part_sets xs v is ks e = ap Some is

module _ (ks : List Attribute) (e : Domain) (v : Value) (ass : List Axes) (tss : List Tables) (rs : Reprs) where
  pub numbers_called : (ts : List Table) →
      map pure_table ts ≡ one_cell (pos (length (items_of v))) ∷ row_of (codes_of e) (map (part_number 1 (items_of v))
      (member_list e)) ∷ [] →
      Covered (repr ReprKind.PartitionOccurrence rs) (partitions ks e) →
      PartsFit ReprKind.PartitionOccurrence rs (partitions ks e) v ass tss →
      option_map pure_tables (Some ts) ≡ layer_tables (repr ReprKind.PartitionOccurrence rs) (partitions ks e) v tss
  numbers_called ts q c h = ap Some q ∙ numbers-down ks e v tss rs c

  pub parts_called : (o : Option (List Table)) → option_map pure_tables o ≡ only_of tss →
      Covered (repr ReprKind.PartitionAsSet rs) (partitions ks e) → PartsFit ReprKind.PartitionAsSet rs (partitions ks e) v ass tss →
      option_map pure_tables o ≡ layer_tables (repr ReprKind.PartitionAsSet rs) (partitions ks e) v tss
  parts_called o q c h = q ∙ parts-down ks e v ass tss rs c h

module _ (ks : List Attribute) (e : Domain) (ts : Tables) (vs : List Value) (o : Option Val) (rs : Reprs) where
  pub numbers_meant : option_map pure_val o ≡ and_then (only_of (first_items ts)) (partition_from_numbers (member_list e)
      (first_items (drop 1 ts))) →
      Covered (repr ReprKind.PartitionOccurrence rs) (partitions ks e) →
      over_axes [] (axes_of (repr ReprKind.PartitionOccurrence rs) (partitions ks e)) ts ≡ true →
      option_map pure_val o ≡ layer_value ReprKind.PartitionOccurrence (partitions ks e) ts vs
  numbers_meant q c h = q ∙ numbers-up ks e ts vs rs c h

  pub parts_meant : option_map pure_val o ≡ and_then (only_of vs) partition_from →
      Covered (repr ReprKind.PartitionAsSet rs) (partitions ks e) →
      over_axes [] (axes_of (repr ReprKind.PartitionAsSet rs) (partitions ks e)) ts ≡ true →
      option_map pure_val o ≡ layer_value ReprKind.PartitionAsSet (partitions ks e) ts vs
  parts_meant q c h = q ∙ parts-up ks e ts vs

-- What is asked of the value of the tables.
abbrev pub UpOfPartition : ReprKind → Domain → Tables → List Value → Option Val → Type 0
UpOfPartition k e ts vs o = (ks : List Attribute) (rs : Reprs) → Covered (repr k rs) (partitions ks e) →
    over_axes [] (axes_of (repr k rs) (partitions ks e)) ts ≡ true →
    option_map pure_val o ≡ layer_value k (partitions ks e) ts vs
