-- One layer up and down, over any way to keep the inner values: the inner values of a member, the canonical tables made
-- of theirs, the tables of the slots in use, and the value made of theirs.
use Rattle.std.specs.Prelude.{List, [], ◌∷◌, map, take, drop, ℤ, Option, Some, None, option_map}
use Rattle.ess_semantics.specs.declared.words.ReprKind.{ReprKind}
use Rattle.ess_semantics.specs.Lists.{and_then, or_default, append_all}
use Rattle.ess_semantics.specs.Values.{Value}
use Rattle.ess_semantics.specs.Trees.{Repr, Reprs, repr, no_reprs, more_reprs}
use Rattle.ess_semantics.specs.Domains.{Domain}
use Rattle.ess_semantics.specs.Tables.{Table, Tables, volume, chunk}
use Rattle.ess_semantics.specs.Cells.{cells_of, tables_over}
use Rattle.ess_semantics.specs.Layers.{Layer, Slot}
use Rattle.ess_semantics.specs.Representations.{layer, own_width, own_part, places_in_use}
use Rattle.ess_semantics.specs.Declarations.{axes_of}
use Rattle.ess_semantics.specs.Canonical.{Child, somes, canonical_layer}

-- ---- the part of a table behind an index list

-- The part of items over axes behind an index list.
abbrev pub slice_in : List (List ℤ) → List ℤ → List ℤ → Option Table
slice_in as' is [] = Some (record { axes = as'; items = is })
slice_in [] is (j ∷ js) = None
slice_in (a ∷ as') is (j ∷ js) = and_then (chunk a (volume as') is j) (λ c. slice_in as' c js)

-- A table without cells.
abbrev pub no_cells : Table
no_cells = record { axes = [] ∷ []; items = [] }

-- The cells of a table behind an index list; none where the list isn't in the axes.
abbrev pub slice : List ℤ → Table → Table
slice js t = or_default (slice_in t.axes t.items js) no_cells

-- The tables of one slot.
abbrev pub slices : Tables → List ℤ → Tables
slices ts js = map (slice js) ts

-- ---- down

-- The inner values of a member, one for each slot in use; the value of a child set or relation is the only one.
abbrev pub inner_values : Layer → Value → List Value
inner_values l v = append_all (map somes (l.contents v))

-- Each slot in use with its tables, which stand in the order of the inner values.
abbrev pub with_tables : List (Option Value) → List Tables → List (Option Slot)
with_tables [] tss = []
with_tables (None ∷ vs) tss = None ∷ with_tables vs tss
with_tables (Some v ∷ vs) [] = None ∷ with_tables vs []
with_tables (Some v ∷ vs) (ts ∷ tss) = Some (v, cells_of ts) ∷ with_tables vs tss

-- The only child with its slots.
abbrev pub children_with : Reprs → List Domain → List (List (Option Value)) → List Tables → List Child
children_with (more_reprs r no_reprs) (d ∷ ds) (vs ∷ vss) tss = (axes_of r d, with_tables vs tss) ∷ []
children_with rs ds vss tss = []

-- The canonical tables of a member, given those of its inner values in order. The layer has at most one child.
abbrev pub layer_tables : Repr → Domain → Value → List Tables → Option Tables
layer_tables (repr k rs) d v tss =
    option_map (λ l. tables_over (axes_of (repr k rs) d) (canonical_layer l v (children_with rs l.children (l.contents v) tss))) (layer k d)

-- ---- up

-- The tables of the slots in use, where the layer's own tables stand for something. A layer without children has none.
abbrev pub inner_tables_of : Layer → Tables → Tables → List Domain → Option (List Tables)
inner_tables_of l own inner [] = option_map (λ v. []) (l.built (cells_of own) [])
inner_tables_of l own inner (d ∷ ds) = option_map (map (slices inner)) (places_in_use l (cells_of own))

-- The tables of the slots in use.
abbrev pub inner_tables : ReprKind → Domain → Tables → Option (List Tables)
inner_tables k d ts = and_then (layer k d) (λ l. inner_tables_of l (take (own_width k) ts) (drop (own_width k) ts) l.children)

-- The only child's values.
abbrev pub values_for : List Domain → List Value → List (List Value)
values_for [] vs = []
values_for (d ∷ ds) vs = vs ∷ []

-- The value that the tables stand for, given the values of the slots in use.
abbrev pub layer_value : ReprKind → Domain → Tables → List Value → Option Value
layer_value k d ts vs =
    and_then (layer k d) (λ l.
    and_then (places_in_use l (own_part k (cells_of ts))) (λ js. l.built (own_part k (cells_of ts)) (values_for l.children vs)))
