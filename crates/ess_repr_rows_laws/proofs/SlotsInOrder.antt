-- Slots in the order of their cells are slots in the order of their rows.
use Rattle.std.proofs.Common.{◌≡◌, refl, ap, ◌∙◌, true, ◌&&◌, List, [], ◌∷◌, map, length, ℤ, Option, Some, None}
use Rattle.std.proofs.lemmas.Bool.{eqb-true}
use Rattle.std.specs.declared.cmp.Ordering.{Ordering}
use Rattle.std.specs.declared.cmp.Ordering.TheVariants.{Less, Equal, Greater}
use Rattle.ess_semantics.specs.Values.{Value}
use Rattle.ess_semantics.specs.Tables.{Tables, volume, item_in, is_filled, same_axes}
use Rattle.ess_semantics.specs.Cells.{Axes, cells_of, row, rows, order_rows}
use Rattle.ess_semantics.specs.Tidy.{over_axes}
use Rattle.ess_semantics.specs.Canonical.{insert_slot_by, insert_slot, by_cells, somes}
use Rattle.ess_semantics.specs.OneLayer.{with_tables}
use Rattle.ess_semantics.proofs.Tests.{and-left, and-right}
use Rattle.ess_repr_laws.proofs.CanonicalPlaces.{AllOf}
use Rattle.ess_repr_laws.proofs.TablesAndCells.{AllAxesDiffer, row-of-items}
use Rattle.ess_repr_rows_laws.specs.SlotOrder.{rows_in, put_by, put_in, by_rows, Filled, filled}
use Rattle.ess_repr_rows_laws.proofs.RowOrder.{by-rows-all}
use Rattle.ess_repr_rows_laws.proofs.Stacked.{slot_of, slots_of, FilledOver, axes-equal}

-- Slots with tables as slots with cells.
pub slots-filled : (vs : List (Option Value)) (tss : List Tables) → with_tables vs tss ≡ slots_of (filled vs tss)
slots-filled [] tss = refl
slots-filled (None ∷ vs) tss = ap (λ l. None ∷ l) (slots-filled vs tss)
slots-filled (Some v ∷ vs) [] = ap (λ l. None ∷ l) (slots-filled vs [])
slots-filled (Some v ∷ vs) (ts ∷ tss) = ap (λ l. Some (v, cells_of ts) ∷ l) (slots-filled vs tss)

-- Where the tables of each are over the axes, those of each slot are.
pub filled-over : (ass : List Axes) (vs : List (Option Value)) (tss : List Tables) → AllOf tss (λ ts. over_axes [] ass ts ≡ true) → AllOf (filled vs tss) (FilledOver ass)
filled-over ass [] tss h = tt
filled-over ass (None ∷ vs) tss h = (tt, filled-over ass vs tss h)
filled-over ass (Some v ∷ vs) [] h = (tt, filled-over ass vs [] h)
filled-over ass (Some v ∷ vs) (ts ∷ tss) h = (h.0, filled-over ass vs tss h.1)

-- The rows of the cells of tables are their items.
pub rows-of-tables : (ass : List Axes) (ts : Tables) → AllAxesDiffer ass → over_axes [] ass ts ≡ true → rows ass (cells_of ts) ≡ rows_in ts
rows-of-tables [] [] d h = refl
rows-of-tables [] (t ∷ ts) d h = cc
rows-of-tables (as' ∷ ass) [] d h = cc
rows-of-tables (as' ∷ ass) (t ∷ ts) d h =
    let one = and-left (is_filled t && same_axes t.axes as') (over_axes [] ass ts) h in
    let a = axes-equal t.axes as' (and-right (is_filled t) (same_axes t.axes as') one) in
    let n = eqb-true (length t.items) (volume t.axes) (and-left (is_filled t) (same_axes t.axes as') one) in
    ap (λ l. l ∷ rows ass (cells_of ts)) (ap (λ y. row as' (item_in y t.items)) a ∙ row-of-items as' d.0 t.items (n ∙ ap volume a))
    ∙ ap (λ l. t.items ∷ l) (rows-of-tables ass ts d.1 (and-right (is_filled t && same_axes t.axes as') (over_axes [] ass ts) h))

-- The rows of a slot.
abbrev pub slot_rows : Filled → List (List ℤ)
slot_rows s = rows_in s.1

module _ (ass : List Axes) (d : AllAxesDiffer ass) where
  abbrev pub Over : Filled → Type 0
  Over s = over_axes [] ass s.1 ≡ true

  insert-rows : (s : Filled) (ts : List Filled) → Over s → AllOf ts Over → insert_slot ass (slot_of s) (map slot_of ts) ≡ map slot_of (put_in slot_rows s ts)
  insert-rows s [] o h = refl
  insert-rows s (t ∷ ts) o h =
      ap (λ r. insert_slot_by (order_rows r (rows ass (cells_of t.1))) (slot_of s) (slot_of t) (map slot_of ts) (insert_slot ass (slot_of s) (map slot_of ts))) (rows-of-tables ass s.1 d o)
      ∙ ap (λ r. insert_slot_by (order_rows (rows_in s.1) r) (slot_of s) (slot_of t) (map slot_of ts) (insert_slot ass (slot_of s) (map slot_of ts))) (rows-of-tables ass t.1 d h.0)
      ∙ ap (insert_slot_by (order_rows (rows_in s.1) (rows_in t.1)) (slot_of s) (slot_of t) (map slot_of ts)) (insert-rows s ts o h.1)
      ∙ go (order_rows (rows_in s.1) (rows_in t.1))
    where
      go : (o : Ordering) → insert_slot_by o (slot_of s) (slot_of t) (map slot_of ts) (map slot_of (put_in slot_rows s ts)) ≡ map slot_of (put_by o s t ts (put_in slot_rows s ts))
      go Less = refl
      go Equal = refl
      go Greater = refl

  -- Slots in the order of their cells.
  pub by-cells-rows : (ss : List Filled) → AllOf ss Over → by_cells ass (map slot_of ss) ≡ map slot_of (by_rows slot_rows ss)
  by-cells-rows [] h = refl
  by-cells-rows (s ∷ ss) h = ap (insert_slot ass (slot_of s)) (by-cells-rows ss h.1) ∙ insert-rows s (by_rows slot_rows ss) h.0 (by-rows-all slot_rows Over ss h.1)

-- ---- in their places

-- The slots in use.
pub somes-slots : (fs : List (Option Filled)) → somes (slots_of fs) ≡ map slot_of (somes fs)
somes-slots [] = refl
somes-slots (None ∷ fs) = somes-slots fs
somes-slots (Some s ∷ fs) = ap (λ l. slot_of s ∷ l) (somes-slots fs)

-- Their tables.
pub somes-over : (ass : List Axes) (fs : List (Option Filled)) → AllOf fs (FilledOver ass) → AllOf (somes fs) (λ s. over_axes [] ass s.1 ≡ true)
somes-over ass [] h = tt
somes-over ass (None ∷ fs) h = somes-over ass fs h.1
somes-over ass (Some s ∷ fs) h = (h.0, somes-over ass fs h.1)
