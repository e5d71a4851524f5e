-- The canonical tables of one layer, on rows: the layer's own tables, and those of the slots stacked under its axes.
use Rattle.std.proofs.Common.{◌≡◌, refl, sym, ap, ◌∙◌, ℕ, zero, suc, ◌-◌, Bool, true, false, ◌||◌, if◌then◌else◌, List, [], ◌∷◌, ◌++◌, map, length, replicate, Option, Some, None, option_map, append-nil}
use Rattle.ess_semantics.specs.declared.words.ReprKind.{ReprKind}
use Rattle.ess_semantics.specs.Values.{Value}
use Rattle.ess_semantics.specs.Trees.{Repr, Reprs, repr, no_reprs, more_reprs}
use Rattle.ess_semantics.specs.Domains.{Domain}
use Rattle.ess_semantics.specs.Tables.{Tables}
use Rattle.ess_semantics.specs.Cells.{Cells, Axes, cells_of, table_over, tables_over}
use Rattle.ess_semantics.specs.Layers.{OwnTable, Layer, Slot}
use Rattle.ess_semantics.specs.Representations.{layer, places}
use Rattle.ess_semantics.specs.Declarations.{declared_own, declarations_of_children, leaves_out, axes_of}
use Rattle.ess_semantics.specs.Tidy.{over_axes}
use Rattle.ess_semantics.specs.Canonical.{somes, by_cells, arranged, canonical_layer}
use Rattle.ess_semantics.specs.OneLayer.{with_tables, children_with, layer_tables}
use Rattle.ess_repr_laws.proofs.CanonicalPlaces.{AllOf}
use Rattle.ess_repr_laws.proofs.RowsOfCells.{own_axes, axes_in, axes_of_children, axes-of-layer}
use Rattle.ess_repr_laws.proofs.TablesAndCells.{AxesDiffer, AllAxesDiffer, tables-themselves}
use Rattle.ess_repr_laws.proofs.PlacedSlots.{placed}
use Rattle.ess_repr_rows_laws.specs.SlotOrder.{by_rows, Filled, filled, tables_in, in_places}
use Rattle.ess_repr_rows_laws.specs.Stacking.{stacked}
use Rattle.ess_repr_rows_laws.proofs.Blocks.{map-length}
use Rattle.ess_repr_rows_laws.proofs.RowOrder.{by-rows-all}
use Rattle.ess_repr_rows_laws.proofs.Stacked.{slot_of, slots_of, FilledOver, stacked-tables}
use Rattle.ess_repr_rows_laws.proofs.SlotsInOrder.{slot_rows, slots-filled, filled-over, by-cells-rows, somes-slots, somes-over}

-- ---- axes

-- The axes of a representation's tables: those of the layer's own tables, then those of its children's.
pub axes-at : (k : ReprKind) (rs : Reprs) (d : Domain) (l : Layer) → layer k d ≡ Some l → axes_of (repr k rs) d ≡ own_axes l.own ++ axes_of_children rs l.children l.axes
axes-at k rs d l at =
    ap (λ o. axes_in (elim o [ None ↦ [] | Some l ↦ map (declared_own false) l.own ++ declarations_of_children (false || leaves_out l.in_use) rs l.children l.axes ])) at
    ∙ axes-of-layer l rs

-- Tables of two lists of cells.
pub tables-both : (xs ys : List Axes) (c c' : Cells) → length c ≡ length xs → tables_over (xs ++ ys) (c ++ c') ≡ tables_over xs c ++ tables_over ys c'
tables-both [] ys [] c' e = refl
tables-both [] ys (f ∷ fs) c' e = cc
tables-both (x ∷ xs) ys [] c' e = cc
tables-both (x ∷ xs) ys (f ∷ fs) c' e = let q : length fs ≡ length xs = cc in ap (λ l. table_over x f ∷ l) (tables-both xs ys fs c' q)

-- ---- slots in their places

slots-both : (xs ys : List (Option Filled)) → slots_of (xs ++ ys) ≡ slots_of xs ++ slots_of ys
slots-both [] ys = refl
slots-both (None ∷ xs) ys = ap (λ l. None ∷ l) (slots-both xs ys)
slots-both (Some s ∷ xs) ys = ap (λ l. Some (slot_of s) ∷ l) (slots-both xs ys)

slots-used : (ss : List Filled) → map (λ s. Some s) (map slot_of ss) ≡ slots_of (map (λ s. Some s) ss)
slots-used [] = refl
slots-used (s ∷ ss) = ap (λ l. Some (slot_of s) ∷ l) (slots-used ss)

slots-unused : (n : ℕ) → replicate n None ≡ slots_of (replicate n None)
slots-unused zero = refl
slots-unused (suc n) = ap (λ l. None ∷ l) (slots-unused n)

-- Slots arranged by cells are slots arranged by rows.
pub arranged-rows : (l : Layer) (ass : List Axes) (fs : List (Option Filled)) → AllAxesDiffer ass → AllOf fs (FilledOver ass) → arranged l ass (slots_of fs) ≡ slots_of (in_places l fs)
arranged-rows l ass fs d h = go l.is_sorted
  where
    sorted : List Filled
    sorted = by_rows slot_rows (somes fs)

    room : ℕ
    room = length (places l) - length (somes fs)

    go : (b : Bool) → (if b then map (λ s. Some s) (by_cells ass (somes (slots_of fs))) ++ replicate (length (places l) - length (somes (slots_of fs))) None else slots_of fs)
        ≡ slots_of (if b then map (λ s. Some s) sorted ++ replicate room None else fs)
    go false = refl
    go true =
        ap (λ ss. map (λ s. Some s) (by_cells ass ss) ++ replicate (length (places l) - length ss) None) (somes-slots fs)
        ∙ ap (λ ss. map (λ s. Some s) ss ++ replicate (length (places l) - length (map slot_of (somes fs))) None) (by-cells-rows ass d (somes fs) (somes-over ass fs h))
        ∙ ap (λ n. map (λ s. Some s) (map slot_of sorted) ++ replicate (length (places l) - n) None) (map-length slot_of (somes fs))
        ∙ ap (λ ss. ss ++ replicate room None) (slots-used sorted) ∙ ap (λ ss. slots_of (map (λ s. Some s) sorted) ++ ss) (slots-unused room)
        ∙ sym (slots-both (map (λ s. Some s) sorted) (replicate room None))

used-over : (ass : List Axes) (ss : List Filled) → AllOf ss (λ s. over_axes [] ass s.1 ≡ true) → (n : ℕ) → AllOf (map (λ s. Some s) ss ++ replicate n None) (FilledOver ass)
used-over ass [] h zero = tt
used-over ass [] h (suc n) = (tt, used-over ass [] h n)
used-over ass (s ∷ ss) h n = (h.0, used-over ass ss h.1 n)

-- The tables of slots in their places are over the axes.
pub places-over : (l : Layer) (ass : List Axes) (fs : List (Option Filled)) → AllOf fs (FilledOver ass) → AllOf (in_places l fs) (FilledOver ass)
places-over l ass fs h = go l.is_sorted
  where
    go : (b : Bool) → AllOf (if b then map (λ s. Some s) (by_rows slot_rows (somes fs)) ++ replicate (length (places l) - length (somes fs)) None else fs) (FilledOver ass)
    go false = h
    go true = used-over ass (by_rows slot_rows (somes fs)) (by-rows-all slot_rows (λ s. over_axes [] ass s.1 ≡ true) (somes fs) (somes-over ass fs h)) (length (places l) - length (somes fs))

-- ---- the layer

cells-length : (ts : Tables) → length (cells_of ts) ≡ length ts
cells-length [] = refl
cells-length (t ∷ ts) = ap suc (cells-length ts)

own-length : (ts : List OwnTable) → length (own_axes ts) ≡ length ts
own-length [] = refl
own-length (t ∷ ts) = ap suc (own-length ts)

-- The tables of a layer without children are its own.
pub tables-alone : (k : ReprKind) (d : Domain) (l : Layer) (v : Value) (tss : List Tables) → layer k d ≡ Some l →
    AllAxesDiffer (own_axes l.own) → over_axes [] (own_axes l.own) (l.own_tables v []) ≡ true →
    layer_tables (repr k no_reprs) d v tss ≡ Some (l.own_tables v [])
tables-alone k d l v tss at differ over =
    ap (option_map (λ l. tables_over (axes_of (repr k no_reprs) d) (canonical_layer l v []))) at
    ∙ ap (λ a. Some (tables_over a (cells_of (l.own_tables v []) ++ []))) (axes-at k no_reprs d l at ∙ append-nil (own_axes l.own))
    ∙ ap (λ c. Some (tables_over (own_axes l.own) c)) (append-nil (cells_of (l.own_tables v [])))
    ∙ ap Some (tables-themselves (own_axes l.own) (l.own_tables v []) differ over)

module _ (k : ReprKind) (r : Repr) (d e : Domain) (l : Layer) (v : Value) (vs : List (Option Value)) (tss : List Tables) where
  -- The slots in their places.
  abbrev pub slots : List (Option Filled)
  slots = in_places l (filled vs tss)

  -- The layer's own tables.
  abbrev pub own : Tables
  own = l.own_tables v (slots_of slots)

  -- The tables of a layer with one child: its own over their axes, then those of the slots, stacked under the layer's axes.
  pub tables-with-child : layer k d ≡ Some l → l.children ≡ e ∷ [] → l.contents v ≡ vs ∷ [] → AxesDiffer l.axes → AllAxesDiffer (axes_of r e) →
      AllOf tss (λ ts. over_axes [] (axes_of r e) ts ≡ true) → length own ≡ length l.own →
      layer_tables (repr k (more_reprs r no_reprs)) d v tss ≡ Some (tables_over (own_axes l.own) (cells_of own) ++ stacked l.axes (axes_of r e) (tables_in slots))
  tables-with-child at only one differ inner over long =
      ap (option_map (λ l. tables_over (axes_of (repr k (more_reprs r no_reprs)) d) (canonical_layer l v (children_with (more_reprs r no_reprs) l.children (l.contents v) tss)))) at
      ∙ ap (λ es. Some (tables_over (axes_of (repr k (more_reprs r no_reprs)) d) (canonical_layer l v (children_with (more_reprs r no_reprs) es (l.contents v) tss)))) only
      ∙ ap (λ vss. Some (tables_over (axes_of (repr k (more_reprs r no_reprs)) d) (canonical_layer l v (children_with (more_reprs r no_reprs) (e ∷ []) vss tss)))) one
      ∙ ap (λ a. Some (tables_over a (canonical_layer l v ((axes_of r e, with_tables vs tss) ∷ [])))) axes
      ∙ ap (λ ss. Some (tables_over (own_axes l.own ++ under_axes) (canonical_of (arranged l (axes_of r e) ss)))) (slots-filled vs tss)
      ∙ ap (λ ss. Some (tables_over (own_axes l.own ++ under_axes) (canonical_of ss))) (arranged-rows l (axes_of r e) (filled vs tss) inner fill)
      ∙ ap Some (tables-both (own_axes l.own) under_axes (cells_of own) (placed (axes_of r e) l.axes (slots_of slots) ++ []) (cells-length own ∙ long ∙ sym (own-length l.own)))
      ∙ ap (λ c. Some (tables_over (own_axes l.own) (cells_of own) ++ tables_over under_axes c)) (append-nil (placed (axes_of r e) l.axes (slots_of slots)))
      ∙ ap (λ ts. Some (tables_over (own_axes l.own) (cells_of own) ++ ts)) (stacked-tables l.axes (axes_of r e) differ inner slots (places-over l (axes_of r e) (filled vs tss) fill))
    where
      under_axes : List Axes
      under_axes = map (λ as'. l.axes ++ as') (axes_of r e)

      axes : axes_of (repr k (more_reprs r no_reprs)) d ≡ own_axes l.own ++ under_axes
      axes =
          axes-at k (more_reprs r no_reprs) d l at ∙ ap (λ es. own_axes l.own ++ axes_of_children (more_reprs r no_reprs) es l.axes) only
          ∙ ap (λ xs. own_axes l.own ++ xs) (append-nil under_axes)

      canonical_of : List (Option Slot) → Cells
      canonical_of ss = cells_of (l.own_tables v ss) ++ (placed (axes_of r e) l.axes ss ++ [])

      fill : AllOf (filled vs tss) (FilledOver (axes_of r e))
      fill = filled-over (axes_of r e) vs tss over
