-- Worked examples: one layer down and up on rows, for each form of a layer, and the same as the layer of cells.
use Rattle.std.specs.Prelude.{◌≡◌, refl, true, false, List, [], ◌∷◌, pos, negsuc, Some, None}
use Rattle.ess_semantics.specs.declared.words.Key.{Key}
use Rattle.ess_semantics.specs.declared.words.ReprKind.{ReprKind}
use Rattle.ess_semantics.specs.Values.{truth, pair, node, a_partition, of_list}
use Rattle.ess_semantics.specs.Collections.{set_of}
use Rattle.ess_semantics.specs.Choice.{alone, over_child}
use Rattle.ess_semantics.specs.Domains.{booleans, sets, functions, partitions, between}
use Rattle.ess_semantics.specs.Tables.{Tables}
use Rattle.ess_semantics.specs.Cells.{Axes}
use Rattle.ess_semantics.specs.Layers.{up_to_marker, where_flagged, where_counted}
use Rattle.ess_semantics.specs.OneLayer.{layer_tables, inner_tables}
use Rattle.ess_semantics.proofs.CellWords.{n, upto, with, ints, atom, one, table, table2, set, function}
use Rattle.ess_repr_rows_laws.specs.Cutting.{parts_at, used_numbers}
use Rattle.ess_repr_rows_laws.specs.RowLayers.{slot_tables, marked_tables, flagged_slot_tables, counted_tables, flagged_tables, spread, picked}

-- ---- sets in slots

abbrev pairs : Axes
pairs = ints (1 ∷ 2 ∷ []) ∷ []

-- the tables of {1} and of {2}, and both as slots: {2} comes first, since its row is below that of {1}
abbrev inner : List Tables
inner = (table (1 ∷ 2 ∷ []) (1 ∷ 0 ∷ []) ∷ []) ∷ (table (1 ∷ 2 ∷ []) (0 ∷ 1 ∷ []) ∷ []) ∷ []

abbrev nested : Tables
nested = table2 (1 ∷ 2 ∷ []) (1 ∷ 2 ∷ []) (0 ∷ 1 ∷ 1 ∷ 0 ∷ []) ∷ []

explicit_rows : slot_tables 2 (pairs ∷ []) inner ≡ nested
explicit_rows = refl

explicit_layer : layer_tables (over_child ReprKind.Explicit (alone ReprKind.Occurrence)) (sets (with Key.Size 2) (sets [] (upto 2)))
    (set_of (set (1 ∷ []) ∷ set (2 ∷ []) ∷ [])) inner ≡ Some nested
explicit_layer = refl

-- {1, 3} in int(1..3)
abbrev members : List Tables
members = (one 1 ∷ []) ∷ (one 3 ∷ []) ∷ []

-- the third slot is out of use
marker_rows : marked_tables 3 ([] ∷ []) members ≡ one 2 ∷ table (1 ∷ 2 ∷ 3 ∷ []) (1 ∷ 3 ∷ 0 ∷ []) ∷ []
marker_rows = refl

flags_rows : flagged_slot_tables 3 ([] ∷ []) members ≡ table (1 ∷ 2 ∷ 3 ∷ []) (1 ∷ 1 ∷ 0 ∷ []) ∷ table (1 ∷ 2 ∷ 3 ∷ []) (1 ∷ 3 ∷ 0 ∷ []) ∷ []
flags_rows = refl

-- no slot is in use
empty_rows : marked_tables 2 ([] ∷ []) [] ≡ one 0 ∷ table (1 ∷ 2 ∷ []) (0 ∷ 0 ∷ []) ∷ []
empty_rows = refl

dummy_layer : layer_tables (alone ReprKind.ExplicitVarSizeWithDummy) (sets [] (upto 3)) (set (1 ∷ 3 ∷ [])) [] ≡ Some (table (1 ∷ 2 ∷ 3 ∷ []) (1 ∷ 3 ∷ 4 ∷ []) ∷ [])
dummy_layer = refl

-- ---- multisets: mset(1, 1, 2) in at most 3 of int(1..2)

repetition_rows : marked_tables 3 ([] ∷ []) ((one 1 ∷ []) ∷ (one 1 ∷ []) ∷ (one 2 ∷ []) ∷ []) ≡ one 3 ∷ table (1 ∷ 2 ∷ 3 ∷ []) (1 ∷ 1 ∷ 2 ∷ []) ∷ []
repetition_rows = refl

counts_rows : counted_tables 3 ([] ∷ []) ((pos 2, one 1 ∷ []) ∷ (pos 1, one 2 ∷ []) ∷ []) ≡
    table (1 ∷ 2 ∷ 3 ∷ []) (2 ∷ 1 ∷ 0 ∷ []) ∷ table (1 ∷ 2 ∷ 3 ∷ []) (1 ∷ 2 ∷ 0 ∷ []) ∷ []
counts_rows = refl

-- a number goes along with its slot
counts_sorted : counted_tables 2 ([] ∷ []) ((pos 5, one 2 ∷ []) ∷ (pos 7, one 1 ∷ []) ∷ []) ≡
    table (1 ∷ 2 ∷ []) (7 ∷ 5 ∷ []) ∷ table (1 ∷ 2 ∷ []) (1 ∷ 2 ∷ []) ∷ []
counts_sorted = refl

-- ---- functions: function(true --> 5) from bool to int(4..5)

partial_rows : flagged_tables (ints (0 ∷ 1 ∷ []) ∷ []) ([] ∷ []) (spread (false ∷ true ∷ []) ((one 5 ∷ []) ∷ [])) ≡
    table (0 ∷ 1 ∷ []) (0 ∷ 1 ∷ []) ∷ table (0 ∷ 1 ∷ []) (0 ∷ 5 ∷ []) ∷ []
partial_rows = refl

partial_layer : layer_tables (over_child ReprKind.Function1DPartial atom) (functions [] booleans (between (pos 4) (pos 5)))
    (function (pair (truth true) (n 5) ∷ [])) ((one 5 ∷ []) ∷ []) ≡ Some (table (0 ∷ 1 ∷ []) (0 ∷ 1 ∷ []) ∷ table (0 ∷ 1 ∷ []) (0 ∷ 5 ∷ []) ∷ [])
partial_layer = refl

-- ---- partitions: partition({1, 3}, {2}) from int(1..3)

partition_layer : layer_tables (alone ReprKind.PartitionOccurrence) (partitions [] (upto 3)) (node a_partition (of_list (set (1 ∷ 3 ∷ []) ∷ set (2 ∷ []) ∷ []))) [] ≡
    Some (one 2 ∷ table (1 ∷ 2 ∷ 3 ∷ []) (1 ∷ 2 ∷ 1 ∷ []) ∷ [])
partition_layer = refl

-- ---- up

-- the slots up to the marker, whatever stands behind it
marked_up : used_numbers up_to_marker 3 (one 2 ∷ []) ≡ Some (0 ∷ 1 ∷ [])
marked_up = refl

-- a marker above the slots
marked_above : used_numbers up_to_marker 3 (one 4 ∷ []) ≡ None
marked_above = refl

marked_below : used_numbers up_to_marker 3 (record { axes = []; items = negsuc 0 ∷ [] } ∷ []) ≡ None
marked_below = refl

flagged_up : used_numbers where_flagged 3 (table (1 ∷ 2 ∷ 3 ∷ []) (1 ∷ 0 ∷ 1 ∷ []) ∷ []) ≡ Some (0 ∷ 2 ∷ [])
flagged_up = refl

-- a flag that is no truth value
flagged_wrong : used_numbers where_flagged 2 (table (1 ∷ 2 ∷ []) (1 ∷ 2 ∷ []) ∷ []) ≡ None
flagged_wrong = refl

counted_up : used_numbers where_counted 3 (table (1 ∷ 2 ∷ 3 ∷ []) (2 ∷ 0 ∷ 3 ∷ []) ∷ []) ≡ Some (0 ∷ 2 ∷ [])
counted_up = refl

-- the tables of the second slot
second_slot : parts_at 1 nested 1 ≡ table (1 ∷ 2 ∷ []) (1 ∷ 0 ∷ []) ∷ []
second_slot = refl

explicit_up : inner_tables ReprKind.Explicit (sets (with Key.Size 2) (sets [] (upto 2))) nested ≡
    Some ((table (1 ∷ 2 ∷ []) (0 ∷ 1 ∷ []) ∷ []) ∷ (table (1 ∷ 2 ∷ []) (1 ∷ 0 ∷ []) ∷ []) ∷ [])
explicit_up = refl

picked_up : picked (ints (1 ∷ 0 ∷ 1 ∷ [])) (n 1 ∷ n 2 ∷ n 3 ∷ []) ≡ Some (n 1 ∷ n 3 ∷ [])
picked_up = refl
