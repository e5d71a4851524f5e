-- The canonical cells of a value: slots in use stand first and rise by their inner cells, parts are numbered by their
-- least member, and what is out of use is 0 or false.
use Rattle.std.specs.Prelude.{if◌then◌else◌, List, [], ◌∷◌, ◌++◌, map, length, replicate, ◌-◌, ℤ, Option, Some, None, option_map}
use Rattle.std.specs.declared.cmp.Ordering.{Ordering}
use Rattle.std.specs.declared.cmp.Ordering.TheVariants.{Greater}
use Rattle.ess_semantics.specs.Lists.{and_then}
use Rattle.ess_semantics.specs.Values.{Value}
use Rattle.ess_semantics.specs.Order.{same_ints}
use Rattle.ess_semantics.specs.Trees.{Repr, Reprs, repr, no_reprs, more_reprs}
use Rattle.ess_semantics.specs.Domains.{Domain}
use Rattle.ess_semantics.specs.Tables.{Tables}
use Rattle.ess_semantics.specs.Cells.{Cells, Axes, cells_of, joined, zero_cells, rows, order_rows, tables_over}
use Rattle.ess_semantics.specs.Layers.{Layer, Slot}
use Rattle.ess_semantics.specs.Representations.{layer, places}
use Rattle.ess_semantics.specs.Declarations.{axes_of}

-- ---- slots in the order of their cells, whose tables have the axes ass

-- The next slot of a sorted list, by the order of two slots.
abbrev pub insert_slot_by : Ordering → Slot → Slot → List Slot → List Slot → List Slot
insert_slot_by Greater s t ts rest = t ∷ rest
insert_slot_by _ s t ts rest = s ∷ t ∷ ts

-- A slot put into a list that is sorted by cells.
abbrev pub insert_slot : List Axes → Slot → List Slot → List Slot
insert_slot ass s [] = s ∷ []
insert_slot ass s (t ∷ ts) = insert_slot_by (order_rows (rows ass s.1) (rows ass t.1)) s t ts (insert_slot ass s ts)

-- The slots in the order of their cells.
abbrev pub by_cells : List Axes → List Slot → List Slot
by_cells ass [] = []
by_cells ass (s ∷ ss) = insert_slot ass s (by_cells ass ss)

-- The items that are there.
abbrev pub somes : {A : Type 0} → List (Option A) → List A
somes [] = []
somes (None ∷ os) = somes os
somes (Some x ∷ os) = x ∷ somes os

-- The slots in their places: sorted ones first and padded to the number of places, others as they stand.
abbrev pub arranged : Layer → List Axes → List (Option Slot) → List (Option Slot)
arranged l ass ss =
    if l.is_sorted then map (λ s. Some s) (by_cells ass (somes ss)) ++ replicate (length (places l) - length (somes ss)) None
    else ss

-- ---- one layer

-- The axes of a child's tables, and its slots.
abbrev pub Child : Type 0
Child = List Axes × List (Option Slot)

-- The cells of a slot, or those of a value out of use.
abbrev pub cells_or : Cells → Option Slot → Cells
cells_or g None = g
cells_or g (Some s) = s.1

-- The cells at a place, where g are those of a value out of use. There are none at an index list that is no place.
abbrev pub cells_in_place : Cells → List (List ℤ) → List (Option Slot) → List ℤ → Cells
cells_in_place g (p ∷ ps) (s ∷ ss) js = if same_ints p js then cells_or g s else cells_in_place g ps ss js
cells_in_place g _ _ js = []

-- The cells of a child's tables under the layer's axes.
abbrev pub child_cells : Layer → Child → Cells
child_cells l c = joined (length l.axes) (length c.0) (cells_in_place (zero_cells c.0) (places l) (arranged l c.0 c.1))

-- The cells of all children's tables.
abbrev pub cells_of_children : Layer → List Child → Cells
cells_of_children l [] = []
cells_of_children l (c ∷ cs) = child_cells l c ++ cells_of_children l cs

-- The slots of the first child in their places.
abbrev pub first_slots : Layer → List Child → List (Option Slot)
first_slots l [] = []
first_slots l (c ∷ cs) = arranged l c.0 c.1

-- The canonical cells of a value, given its children with their slots.
abbrev pub canonical_layer : Layer → Value → List Child → Cells
canonical_layer l v cs = cells_of (l.own_tables v (first_slots l cs)) ++ cells_of_children l cs

-- ---- all layers

-- Each value at its place with its cells, by f.
abbrev pub canonical_slots : List (Option Value) → (Value → Option Cells) → Option (List (Option Slot))
canonical_slots [] f = Some []
canonical_slots (None ∷ vs) f = option_map (λ ss. None ∷ ss) (canonical_slots vs f)
canonical_slots (Some v ∷ vs) f = and_then (f v) (λ c. option_map (λ ss. Some (v, c) ∷ ss) (canonical_slots vs f))

abbrev mutual
  -- The canonical cells of a member of the domain.
  pub canonical_cells : Repr → Domain → Value → Option Cells
  canonical_cells (repr k rs) d v =
      and_then (layer k d) (λ l. option_map (canonical_layer l v) (canonical_children rs l.children (l.contents v)))

  -- Each child with its slots.
  pub canonical_children : Reprs → List Domain → List (List (Option Value)) → Option (List Child)
  canonical_children no_reprs ds vss = Some []
  canonical_children (more_reprs r rs) [] vss = None
  canonical_children (more_reprs r rs) (d ∷ ds) [] = None
  canonical_children (more_reprs r rs) (d ∷ ds) (vs ∷ vss) =
      and_then (canonical_slots vs (canonical_cells r d)) (λ ss.
      option_map (λ cs. (axes_of r d, ss) ∷ cs) (canonical_children rs ds vss))

-- The canonical tables of a member of the domain.
abbrev pub tables_of_value : Repr → Domain → Value → Option Tables
tables_of_value r d v = option_map (tables_over (axes_of r d)) (canonical_cells r d v)
