-- Whether cells are canonical, said of the cells alone, as the constraints say it that a model has for a variable: own
-- cells lie in their domains, slots in use stand first and rise by their inner cells, what is out of use is 0 or false,
-- and each kind says what its attributes ask. So also inside each place in use.
use Rattle.std.specs.Prelude.{Bool, true, false, ◌&&◌, ◌||◌, not, if◌then◌else◌, List, [], ◌∷◌, length, take, drop, nat_eq, ℤ, pos, ◌+ℤ◌}
use Rattle.std.specs.List.{list_all}
use Rattle.std.specs.Ordering.{is_lt, is_le}
use Rattle.ess_semantics.specs.Lists.{is_some_and, and_then}
use Rattle.ess_semantics.specs.Trees.{Repr, Reprs, repr, no_reprs, more_reprs}
use Rattle.ess_semantics.specs.Domains.{Domain}
use Rattle.ess_semantics.specs.Tables.{is_cell}
use Rattle.ess_semantics.specs.Cells.{Cells, Axes, behind, every_cell, rows, order_rows, are_zero}
use Rattle.ess_semantics.specs.Layers.{OwnTable, Layer}
use Rattle.ess_semantics.specs.Representations.{layer, width, own_part, child_part, places, places_in_use, is_used, values_of_children}
use Rattle.ess_semantics.specs.Declarations.{axes_of}

-- Each own cell is there and lies in its domain.
abbrev pub own_cells_fit : List OwnTable → Cells → Bool
own_cells_fit [] [] = true
own_cells_fit (t ∷ ts) (f ∷ fs) = every_cell t.axes (is_cell t.cell) f && own_cells_fit ts fs
own_cells_fit _ _ = false

-- The next slot.
abbrev pub next_slot : List ℤ → List ℤ
next_slot [] = []
next_slot (k ∷ js) = (k +ℤ pos 1) ∷ js

-- f of each slot and the next one, where that is in use.
abbrev pub each_next : Layer → Cells → (List ℤ → List ℤ → Bool) → Bool
each_next l own f = list_all (λ js. not (is_used l.in_use own (next_slot js)) || f js (next_slot js)) (places l)

-- Slots in use stand first: a slot is in use where the next one is.
abbrev pub in_use_first : Layer → Cells → Bool
in_use_first l own = if l.is_sorted then each_next l own (λ js ks. is_used l.in_use own js) else true

-- Whether two slots stand in order: the first one's cells are below the other's, or equal where slots may be equal.
abbrev pub in_order : Bool → List (List ℤ) → List (List ℤ) → Bool
in_order true xs ys = is_lt (order_rows xs ys)
in_order false xs ys = is_le (order_rows xs ys)

-- Slots in use rise by their cells, whose tables have the axes ass.
abbrev pub slots_rise : Layer → Cells → List Axes → Cells → Bool
slots_rise l own ass c =
    if l.is_sorted then each_next l own (λ js ks. in_order l.is_distinct (rows ass (behind js c)) (rows ass (behind ks c))) else true

-- A child's cells, whose tables have the axes ass: those of each place in use have the property p, slots rise, all else
-- is 0 or false.
abbrev pub child_is_canonical : Layer → Cells → List Axes → (Cells → Bool) → Cells → Bool
child_is_canonical l own ass p c =
    nat_eq (length c) (length ass) && list_all (λ js. not (is_used l.in_use own js) || p (behind js c)) (places l) && slots_rise l own ass c &&
    list_all (λ js. is_used l.in_use own js || are_zero ass (behind js c)) (places l)

abbrev mutual
  -- Whether cells are the canonical cells of a member of the domain.
  pub canonical : Repr → Domain → Cells → Bool
  canonical (repr k rs) d c =
      is_some_and (layer k d) (λ l.
      own_cells_fit l.own (own_part k c) && in_use_first l (own_part k c) &&
      children_are_canonical l (own_part k c) rs l.children (child_part k c) &&
      is_some_and (and_then (places_in_use l (own_part k c)) (values_of_children rs l.children (child_part k c))) (l.is_canonical (own_part k c)))

  -- Each child at its places.
  pub children_are_canonical : Layer → Cells → Reprs → List Domain → Cells → Bool
  children_are_canonical l own no_reprs [] [] = true
  children_are_canonical l own (more_reprs r rs) (d ∷ ds) c =
      child_is_canonical l own (axes_of r d) (canonical r d) (take (width r) c) && children_are_canonical l own rs ds (drop (width r) c)
  children_are_canonical l own _ _ c = false
