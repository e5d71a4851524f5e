-- Layers without children on rows: the own tables of atoms, of sets, multisets and relations by the members that occur, and of
-- partitions by the numbers of parts.
use Rattle.std.proofs.Common.{◌≡◌, refl, sym, ap, ◌∙◌, true, List, [], ◌∷◌, map, length, ℤ, pos, Some, mul-one}
use Rattle.ess_semantics.specs.declared.words.ReprKind.{ReprKind}
use Rattle.ess_semantics.specs.Values.{Value, items_of}
use Rattle.ess_semantics.specs.Collections.{holds}
use Rattle.ess_semantics.specs.Trees.{repr, no_reprs}
use Rattle.ess_semantics.specs.Domains.{Attribute, Domain, Domains, tuples, sets, msets, relations, partitions, domain_list, member_list}
use Rattle.ess_semantics.specs.Tables.{Tables, code, truth_number, one_cell, row_of}
use Rattle.ess_semantics.specs.Cells.{Axes}
use Rattle.ess_semantics.specs.Layers.{codes_of}
use Rattle.ess_semantics.specs.ScalarLayers.{atom_layer}
use Rattle.ess_semantics.specs.SetLayers.{occurrence_layer}
use Rattle.ess_semantics.specs.MultisetLayers.{mset_occurrence_layer, occurs}
use Rattle.ess_semantics.specs.RelationLayers.{relation_matrix_layer}
use Rattle.ess_semantics.specs.PartitionLayers.{part_number, partition_occurrence_layer}
use Rattle.ess_semantics.specs.Representations.{layer}
use Rattle.ess_semantics.specs.Tidy.{over_axes}
use Rattle.ess_semantics.specs.OneLayer.{layer_tables}
use Rattle.ess_repr_laws.proofs.TablesAndCells.{AxesDiffer}
use Rattle.ess_repr_laws.proofs.Arguments.{Arguments}
use Rattle.ess_repr_laws.proofs.ArgumentTables.{places-volume}
use Rattle.ess_repr_rows_laws.proofs.Blocks.{map-length}
use Rattle.ess_repr_rows_laws.proofs.LayerDownRows.{tables-alone}
use Rattle.ess_repr_rows_laws.proofs.ArgumentLayers.{one-over}

-- The cell of an atom.
pub atom-rows : (d : Domain) → layer ReprKind.Atom d ≡ Some (atom_layer d) → (v : Value) (tss : List Tables) →
    layer_tables (repr ReprKind.Atom no_reprs) d v tss ≡ Some (one_cell (code v) ∷ [])
atom-rows d at v tss = tables-alone ReprKind.Atom d (atom_layer d) v tss at (tt, tt) refl

-- a number for each member of an atom fills a table over its axis
row-over : (d : Domain) (F : Value → ℤ) → over_axes [] ((codes_of d ∷ []) ∷ []) (row_of (codes_of d) (map F (member_list d)) ∷ []) ≡ true
row-over d F =
    one-over (codes_of d ∷ []) (map F (member_list d))
    (map-length F (member_list d) ∙ sym (map-length code (member_list d)) ∙ sym (mul-one (length (codes_of d))))

-- The members that occur in a set.
pub occurrence-rows : (ks : List Attribute) (d : Domain) → AxesDiffer (codes_of d ∷ []) → (v : Value) (tss : List Tables) →
    layer_tables (repr ReprKind.Occurrence no_reprs) (sets ks d) v tss ≡
    Some (row_of (codes_of d) (map (λ x. truth_number (holds (items_of v) x)) (member_list d)) ∷ [])
occurrence-rows ks d differ v tss =
    tables-alone ReprKind.Occurrence (sets ks d) (occurrence_layer ks d) v tss refl (differ, tt) (row-over d (λ x. truth_number (holds (items_of v) x)))

-- How often the members occur in a multiset.
pub mset-occurrence-rows : (ks : List Attribute) (d : Domain) → AxesDiffer (codes_of d ∷ []) → (v : Value) (tss : List Tables) →
    layer_tables (repr ReprKind.MSetOccurrence no_reprs) (msets ks d) v tss ≡ Some (row_of (codes_of d) (map (occurs v) (member_list d)) ∷ [])
mset-occurrence-rows ks d differ v tss =
    tables-alone ReprKind.MSetOccurrence (msets ks d) (mset_occurrence_layer ks d) v tss refl (differ, tt) (row-over d (occurs v))

-- The tuples that occur in a relation.
pub relation-matrix-rows : (ks : List Attribute) (ds : Domains) → Arguments (tuples ds) (map codes_of (domain_list ds)) (λ x. map code (items_of x)) →
    AxesDiffer (map codes_of (domain_list ds)) → (v : Value) (tss : List Tables) →
    layer_tables (repr ReprKind.RelationAsMatrix no_reprs) (relations ks ds) v tss ≡
    Some (record { axes = map codes_of (domain_list ds); items = map (λ x. truth_number (holds (items_of v) x)) (member_list (tuples ds)) } ∷ [])
relation-matrix-rows ks ds args differ v tss =
    tables-alone ReprKind.RelationAsMatrix (relations ks ds) (relation_matrix_layer ks ds) v tss refl (differ, tt)
    (one-over axes (map F (member_list (tuples ds)))
    (map-length F (member_list (tuples ds)) ∙ sym (map-length (λ x. map code (items_of x)) (member_list (tuples ds))) ∙ ap length (sym args.places) ∙ places-volume axes))
  where
    axes : Axes
    axes = map codes_of (domain_list ds)

    F : Value → ℤ
    F x = truth_number (holds (items_of v) x)

-- The number of parts, and the number of each member's part.
pub partition-occurrence-rows : (ks : List Attribute) (d : Domain) → AxesDiffer (codes_of d ∷ []) → (v : Value) (tss : List Tables) →
    layer_tables (repr ReprKind.PartitionOccurrence no_reprs) (partitions ks d) v tss ≡
    Some (one_cell (pos (length (items_of v))) ∷ row_of (codes_of d) (map (part_number 1 (items_of v)) (member_list d)) ∷ [])
partition-occurrence-rows ks d differ v tss =
    tables-alone ReprKind.PartitionOccurrence (partitions ks d) (partition_occurrence_layer ks d) v tss refl (tt, (differ, tt)) (row-over d (part_number 1 (items_of v)))
