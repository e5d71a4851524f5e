-- What cells stand for. A representation is a relation between cells and values, layer by layer: the layer says which
-- places are in use, the children say what stands there, and the layer builds the value.
use Rattle.std.specs.Prelude.{ℕ, ◌+◌, Bool, true, List, [], ◌∷◌, length, take, drop, ℤ, pos, int_le, Option, Some, None, option_map}
use Rattle.ess_semantics.specs.declared.words.ReprKind.{ReprKind}
use Rattle.ess_semantics.specs.Lists.{and_then, each_of, is_some_and}
use Rattle.ess_semantics.specs.Values.{Value}
use Rattle.ess_semantics.specs.Order.{same_int}
use Rattle.ess_semantics.specs.Trees.{Repr, Reprs, repr, no_reprs, more_reprs}
use Rattle.ess_semantics.specs.Domains.{Domain, booleans, integers, named, tuples, records, matrices, sets, msets, functions, relations, partitions, lists_of}
use Rattle.ess_semantics.specs.Tables.{Tables}
use Rattle.ess_semantics.specs.Cells.{Cells, behind, cells_at}
use Rattle.ess_semantics.specs.Layers.{Layer, Use, everywhere, all_slots, up_to_marker, where_flagged, where_counted, own_cell, within_slots, chosen, counted}
use Rattle.ess_semantics.specs.ScalarLayers.{atom_layer, tuple_layer, record_layer, matrix_layer}
use Rattle.ess_semantics.specs.SetLayers.{occurrence_layer, explicit_layer, marker_layer, flags_layer, dummy_layer}
use Rattle.ess_semantics.specs.MultisetLayers.{mset_occurrence_layer, repetition_layer, mset_flags_layer}
use Rattle.ess_semantics.specs.FunctionLayers.{function_1d_layer, function_1d_partial_layer, function_nd_layer, function_nd_partial_layer, function_as_relation_layer}
use Rattle.ess_semantics.specs.RelationLayers.{relation_matrix_layer, relation_as_set_layer}
use Rattle.ess_semantics.specs.PartitionLayers.{partition_occurrence_layer, partition_as_set_layer}

-- The layer of a kind over a domain, where the kind is one for domains of this form.
abbrev pub layer : ReprKind → Domain → Option Layer
layer ReprKind.Atom booleans = Some (atom_layer booleans)
layer ReprKind.Atom (integers ss) = Some (atom_layer (integers ss))
layer ReprKind.Atom (named t n) = Some (atom_layer (named t n))
layer ReprKind.Tuple (tuples ds) = Some (tuple_layer ds)
layer ReprKind.Rec (records fs ds) = Some (record_layer fs ds)
layer ReprKind.Matrix (matrices is d) = Some (matrix_layer is d)
layer ReprKind.Occurrence (sets ks d) = Some (occurrence_layer ks d)
layer ReprKind.Explicit (sets ks d) = Some (explicit_layer ks d)
layer ReprKind.ExplicitVarSizeWithMarker (sets ks d) = Some (marker_layer ks d)
layer ReprKind.ExplicitVarSizeWithFlags (sets ks d) = Some (flags_layer ks d)
layer ReprKind.ExplicitVarSizeWithDummy (sets ks d) = Some (dummy_layer ks d)
layer ReprKind.MSetOccurrence (msets ks d) = Some (mset_occurrence_layer ks d)
layer ReprKind.MSetExplicitWithRepetition (msets ks d) = Some (repetition_layer ks d)
layer ReprKind.MSetExplicitWithFlags (msets ks d) = Some (mset_flags_layer ks d)
layer ReprKind.Function1D (functions ks d c) = Some (function_1d_layer ks d c)
layer ReprKind.Function1DPartial (functions ks d c) = Some (function_1d_partial_layer ks d c)
layer ReprKind.FunctionND (functions ks (tuples ds) c) = Some (function_nd_layer ks ds c)
layer ReprKind.FunctionNDPartial (functions ks (tuples ds) c) = Some (function_nd_partial_layer ks ds c)
layer ReprKind.FunctionAsRelation (functions ks d c) = Some (function_as_relation_layer ks d c)
layer ReprKind.RelationAsMatrix (relations ks ds) = Some (relation_matrix_layer ks ds)
layer ReprKind.RelationAsSet (relations ks ds) = Some (relation_as_set_layer ks ds)
layer ReprKind.PartitionOccurrence (partitions ks d) = Some (partition_occurrence_layer ks d)
layer ReprKind.PartitionAsSet (partitions ks d) = Some (partition_as_set_layer ks d)
layer _ d = None

-- How many tables a kind has of its own, whatever the domain.
abbrev pub own_width : ReprKind → ℕ
own_width ReprKind.Tuple = 0
own_width ReprKind.Rec = 0
own_width ReprKind.Matrix = 0
own_width ReprKind.Explicit = 0
own_width ReprKind.Function1D = 0
own_width ReprKind.FunctionND = 0
own_width ReprKind.FunctionAsRelation = 0
own_width ReprKind.RelationAsSet = 0
own_width ReprKind.PartitionAsSet = 0
own_width ReprKind.PartitionOccurrence = 2
own_width _ = 1

abbrev mutual
  -- How many tables a representation has.
  pub width : Repr → ℕ
  width (repr k rs) = own_width k + widths rs

  -- How many tables the children have.
  pub widths : Reprs → ℕ
  widths no_reprs = 0
  widths (more_reprs r rs) = width r + widths rs

-- The cells of the layer's own tables.
abbrev pub own_part : ReprKind → Cells → Cells
own_part k c = take (own_width k) c

-- The cells of the children's tables.
abbrev pub child_part : ReprKind → Cells → Cells
child_part k c = drop (own_width k) c

-- ---- places

-- The places that the layer's children have.
abbrev pub places : Layer → List (List ℤ)
places l = lists_of l.axes

-- Of the places js those in use.
abbrev pub places_by : Use → Cells → List (List ℤ) → Option (List (List ℤ))
places_by everywhere c js = Some js
places_by (all_slots n) c js = Some js
places_by up_to_marker c js = and_then (own_cell c []) (λ m. option_map (λ n. take n js) (within_slots m (length js)))
places_by where_flagged c js = chosen js (own_cell c)
places_by where_counted c js = counted js (own_cell c)

-- The places in use, where the layer's own cells stand for something.
abbrev pub places_in_use : Layer → Cells → Option (List (List ℤ))
places_in_use l c = places_by l.in_use c (places l)

-- The number of a slot.
abbrev pub slot_number : List ℤ → ℤ
slot_number [] = pos 0
slot_number (k ∷ js) = k

-- Whether a place is in use.
abbrev pub is_used : Use → Cells → List ℤ → Bool
is_used everywhere c js = true
is_used (all_slots n) c js = int_le (slot_number js) (pos n)
is_used up_to_marker c js = is_some_and (own_cell c []) (int_le (slot_number js))
is_used where_flagged c js = is_some_and (own_cell c js) (same_int (pos 1))
is_used where_counted c js = is_some_and (own_cell c js) (int_le (pos 1))

-- ---- values

abbrev mutual
  -- The value that cells stand for, or nothing.
  pub value_of_cells : Repr → Domain → Cells → Option Value
  value_of_cells (repr k rs) d c =
      and_then (layer k d) (λ l.
      and_then (places_in_use l (own_part k c)) (λ js.
      and_then (values_of_children rs l.children (child_part k c) js) (l.built (own_part k c))))

  -- The values of each child at the places.
  pub values_of_children : Reprs → List Domain → Cells → List (List ℤ) → Option (List (List Value))
  values_of_children no_reprs ds c js = Some []
  values_of_children (more_reprs r rs) [] c js = None
  values_of_children (more_reprs r rs) (d ∷ ds) c js =
      and_then (each_of js (λ j. value_of_cells r d (behind j (take (width r) c)))) (λ vs.
      option_map (λ vss. vs ∷ vss) (values_of_children rs ds (drop (width r) c) js))

-- The value that tables stand for at an index prefix.
abbrev pub value_of_tables : Repr → Domain → Tables → List ℤ → Option Value
value_of_tables r d ts i = value_of_cells r d (cells_at ts i)
