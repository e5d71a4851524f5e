-- The tables of slots in their places are stacked: row by row they hold the items of the slots one behind the other.
use Rattle.std.proofs.Common.{◌≡◌, refl, sym, ap, ◌∙◌, ℕ, zero, suc, ◌*◌, Bool, true, false, ◌&&◌, if◌then◌else◌, List, [], ◌∷◌, ◌++◌, map, length, take, drop, ℤ, pos, Option, Some, None, append-nil, mul_assoc, one-mul}
use Rattle.std.proofs.Math.Path.{fun_ext}
use Rattle.std.proofs.lemmas.Bool.{eqb-true}
use Rattle.ess_semantics.specs.Lists.{or_default, append_all}
use Rattle.ess_semantics.specs.Order.{same_ints}
use Rattle.ess_semantics.specs.Domains.{add_heads, lists_of}
use Rattle.ess_semantics.specs.Tables.{Tables, volume, item_in, is_filled, same_axes}
use Rattle.ess_semantics.specs.Cells.{Grid, Cells, Axes, cells_of, first_grid, other_grids, joined, is_index, gather, row, zero_grid, zero_cells, tables_over}
use Rattle.ess_semantics.specs.Layers.{Slot}
use Rattle.ess_semantics.specs.Tidy.{over_axes}
use Rattle.ess_semantics.specs.Canonical.{cells_or, cells_in_place}
use Rattle.ess_semantics.proofs.Tests.{and-left, and-right}
use Rattle.ess_semantics.proofs.Orders.{same_ints-itself, same_ints-equal}
use Rattle.ess_repr_laws.proofs.CanonicalPlaces.{AllOf, all-of-map}
use Rattle.ess_repr_laws.proofs.TablesAndCells.{AxesDiffer, AllAxesDiffer, row-length, row-of-items}
use Rattle.ess_repr_laws.proofs.PlacesOfTables.{PlacesDiffer, row-places, places-are, places-differ, index-length}
use Rattle.ess_repr_laws.proofs.PlacedSlots.{placed}
use Rattle.ess_repr_rows_laws.specs.SlotOrder.{Filled, tables_in}
use Rattle.ess_repr_rows_laws.specs.Stacking.{zeros, fitted, items_of_table, slot_items, items_in_turn, stacked_table, stacked_from, stacked}
use Rattle.ess_repr_rows_laws.proofs.Blocks.{filled_up, append_all-append, map-twice, map-same, map-both, map-length, blocks-fitted}

-- A slot with its cells.
abbrev pub slot_of : Filled → Slot
slot_of s = (s.0, cells_of s.1)

-- The slots with their cells.
abbrev pub slots_of : List (Option Filled) → List (Option Slot)
slots_of [] = []
slots_of (None ∷ ss) = None ∷ slots_of ss
slots_of (Some s ∷ ss) = Some (slot_of s) ∷ slots_of ss

-- The tables of a slot are over the axes.
abbrev pub FilledOver : List Axes → Option Filled → Type 0
FilledOver ass None = Unit {0}
FilledOver ass (Some s) = over_axes [] ass s.1 ≡ true

-- ---- rows in blocks

-- The row over two lists of axes has a block for each place of the first.
pub row-blocks : (bs as' : Axes) (f : Grid) → row (bs ++ as') f ≡ append_all (map (λ js. row as' (λ is. f (js ++ is))) (lists_of bs))
row-blocks [] as' f = sym (append-nil (row as' f))
row-blocks (b ∷ bs) as' f = go b (λ k. row-blocks bs as' (λ is. f (k ∷ is)))
  where
    block : List ℤ → List ℤ
    block js = row as' (λ is. f (js ++ is))

    go : (ks : List ℤ) → ((k : ℤ) → row (bs ++ as') (λ is. f (k ∷ is)) ≡ append_all (map (λ js. block (k ∷ js)) (lists_of bs))) →
        gather ks (λ k. row (bs ++ as') (λ is. f (k ∷ is))) ≡ append_all (map block (add_heads ks (lists_of bs)))
    go [] h = refl
    go (k ∷ ks) h =
        ap (λ l. l ++ gather ks (λ k. row (bs ++ as') (λ is. f (k ∷ is)))) (h k ∙ ap append_all (sym (map-twice block (λ l. k ∷ l) (lists_of bs))))
        ∙ ap (λ l. append_all (map block (map (λ l. k ∷ l) (lists_of bs))) ++ l) (go ks h)
        ∙ sym (append_all-append (map block (map (λ l. k ∷ l) (lists_of bs))) (map block (add_heads ks (lists_of bs))))
        ∙ ap append_all (sym (map-both block (map (λ l. k ∷ l) (lists_of bs)) (add_heads ks (lists_of bs))))

-- There are as many places as cells.
pub places-count : (as' : Axes) → length (lists_of as') ≡ volume as'
places-count as' =
    sym (map-length (λ p. or_default (zero_grid as' p) (pos 0)) (lists_of as')) ∙ ap length (sym (row-places as' (zero_grid as'))) ∙ row-length as' (zero_grid as')

-- A row of cells that all read 0.
pub row-zeros : (as' : Axes) (f : Grid) → ((p : List ℤ) → or_default (f p) (pos 0) ≡ pos 0) → row as' f ≡ zeros (volume as')
row-zeros as' f h = row-places as' f ∙ go (lists_of as') ∙ ap zeros (places-count as')
  where
    go : (ps : List (List ℤ)) → map (λ p. or_default (f p) (pos 0)) ps ≡ zeros (length ps)
    go [] = refl
    go (p ∷ ps) = ap (λ x. x ∷ map (λ p. or_default (f p) (pos 0)) ps) (h p) ∙ ap (λ l. pos 0 ∷ l) (go ps)

-- ---- parts of index lists

take-front : (js is : List ℤ) → take (length js) (js ++ is) ≡ js
take-front [] is = refl
take-front (j ∷ js) is = ap (λ l. j ∷ l) (take-front js is)

drop-front : (js is : List ℤ) → drop (length js) (js ++ is) ≡ is
drop-front [] is = refl
drop-front (j ∷ js) is = drop-front js is

-- the first of joined tables, row by row
joined-row : (bs as' : Axes) (p : List ℤ → Cells) →
    row (bs ++ as') (λ is. first_grid (p (take (length bs) is)) (drop (length bs) is)) ≡ append_all (map (λ js. row as' (first_grid (p js))) (lists_of bs))
joined-row bs as' p =
    row-blocks bs as' (λ is. first_grid (p (take (length bs) is)) (drop (length bs) is))
    ∙ ap append_all (map-same (λ js. row as' (λ is. first_grid (p (take (length bs) (js ++ is))) (drop (length bs) (js ++ is)))) (λ js. row as' (first_grid (p js))) (lists_of bs)
    (all-of-map (lists_of bs) (λ js. is_index bs js ≡ true) _ (λ js e. ap (row as') (fun_ext (λ is. at js is (index-length bs js e)))) (places-are bs)))
  where
    at : (js is : List ℤ) → length js ≡ length bs → first_grid (p (take (length bs) (js ++ is))) (drop (length bs) (js ++ is)) ≡ first_grid (p js) is
    at js is e =
        ap (λ n. first_grid (p (take n (js ++ is))) (drop n (js ++ is))) (sym e) ∙ ap (λ ks. first_grid (p ks) (drop (length js) (js ++ is))) (take-front js is)
        ∙ ap (first_grid (p js)) (drop-front js is)

-- ---- what stands in places

-- Of the cells in places, what h says of each: of a slot's, and of none where no slot is left.
pub in-places : (h : Cells → List ℤ) (z : Cells) (ps : List (List ℤ)) (ss : List (Option Slot)) → PlacesDiffer ps →
    map (λ js. h (cells_in_place z ps ss js)) ps ≡ filled_up (h []) (length ps) (map (λ s. h (cells_or z s)) ss)
in-places h z [] [] d = refl
in-places h z [] (s ∷ ss) d = refl
in-places h z (p ∷ ps) [] d = ap (λ l. h [] ∷ l) (none ps)
  where
    none : (qs : List (List ℤ)) → map (λ js. h []) qs ≡ filled_up (h []) (length qs) []
    none [] = refl
    none (q ∷ qs) = ap (λ l. h [] ∷ l) (none qs)
in-places h z (p ∷ ps) (s ∷ ss) d =
    ap (λ b. h (if b then cells_or z s else cells_in_place z ps ss p) ∷ map (λ js. h (cells_in_place z (p ∷ ps) (s ∷ ss) js)) ps) (same_ints-itself p)
    ∙ ap (λ l. h (cells_or z s) ∷ l)
    (map-same (λ js. h (cells_in_place z (p ∷ ps) (s ∷ ss) js)) (λ js. h (cells_in_place z ps ss js)) ps
    (all-of-map ps (λ q. same_ints p q ≡ false) _ (λ q e. ap (λ b. h (if b then cells_or z s else cells_in_place z ps ss q)) e) d.0)
    ∙ in-places h z ps ss d.1)

-- ---- one table after the other

drop-one : {A : Type 0} (k : ℕ) (xs : List A) (y : A) (ys : List A) → drop k xs ≡ y ∷ ys → drop (suc k) xs ≡ ys
drop-one zero [] y ys e = cc
drop-one zero (x ∷ xs) y ys e = cc
drop-one (suc k) [] y ys e = cc
drop-one (suc k) (x ∷ xs) y ys e = drop-one k xs y ys e

others-drop : (k : ℕ) (c : Cells) → other_grids (drop k c) ≡ drop (suc k) c
others-drop zero [] = refl
others-drop zero (f ∷ fs) = refl
others-drop (suc k) [] = refl
others-drop (suc k) (f ∷ fs) = others-drop k fs

-- Equal axes.
pub axes-equal : (xs ys : Axes) → same_axes xs ys ≡ true → xs ≡ ys
axes-equal [] [] e = refl
axes-equal [] (y ∷ ys) e = cc
axes-equal (x ∷ xs) [] e = cc
axes-equal (x ∷ xs) (y ∷ ys) e =
    ap (λ z. z ∷ xs) (same_ints-equal x y (and-left (same_ints x y) (same_axes xs ys) e))
    ∙ ap (λ l. y ∷ l) (axes-equal xs ys (and-right (same_ints x y) (same_axes xs ys) e))

-- the items of the table with k tables before it
table-row : (k : ℕ) (full : List Axes) (as' : Axes) (ass : List Axes) (ts : Tables) → drop k full ≡ as' ∷ ass → AllAxesDiffer full → over_axes [] full ts ≡ true →
    row as' (first_grid (drop k (cells_of ts))) ≡ items_of_table k ts
table-row zero [] as' ass ts e d h = cc
table-row (suc k) [] as' ass ts e d h = cc
table-row zero (x ∷ full) as' ass [] e d h = cc
table-row (suc k) (x ∷ full) as' ass [] e d h = cc
table-row zero (x ∷ full) as' ass (t ∷ ts) e d h =
    let one = and-left (is_filled t && same_axes t.axes x) (over_axes [] full ts) h in
    let a = axes-equal t.axes x (and-right (is_filled t) (same_axes t.axes x) one) in
    let n = eqb-true (length t.items) (volume t.axes) (and-left (is_filled t) (same_axes t.axes x) one) in
    let q : x ≡ as' = cc in
    ap (λ y. row y (item_in t.axes t.items)) (sym q) ∙ ap (λ y. row x (item_in y t.items)) a ∙ row-of-items x d.0 t.items (n ∙ ap volume a)
table-row (suc k) (x ∷ full) as' ass (t ∷ ts) e d h = table-row k full as' ass ts e d.1 (and-right (is_filled t && same_axes t.axes x) (over_axes [] full ts) h)

-- the same of a value out of use
zero-row : (k : ℕ) (full : List Axes) (as' : Axes) (ass : List Axes) → drop k full ≡ as' ∷ ass → row as' (first_grid (drop k (zero_cells full))) ≡ zeros (volume as')
zero-row zero [] as' ass e = cc
zero-row (suc k) [] as' ass e = cc
zero-row zero (x ∷ full) as' ass e = let q : x ≡ as' = cc in row-zeros as' (zero_grid x) (λ p. at (is_index x p))
  where
    at : (b : Bool) → or_default (if b then Some (pos 0) else None) (pos 0) ≡ pos 0
    at true = refl
    at false = refl
zero-row (suc k) (x ∷ full) as' ass e = zero-row k full as' ass e

-- nothing reads 0
none-row : (k : ℕ) (as' : Axes) → row as' (first_grid (drop k [])) ≡ zeros (volume as')
none-row zero as' = row-zeros as' (λ js. None) (λ p. refl)
none-row (suc k) as' = row-zeros as' (λ js. None) (λ p. refl)

module _ (bs : Axes) (full : List Axes) (b : AxesDiffer bs) (d : AllAxesDiffer full) where
  abbrev z : Cells
  z = zero_cells full

  -- the items of the slots
  slot-rows : (k : ℕ) (as' : Axes) (ass : List Axes) → drop k full ≡ as' ∷ ass → (fs : List (Option Filled)) → AllOf fs (FilledOver full) →
      map (λ s. row as' (first_grid (drop k (cells_or z s)))) (slots_of fs) ≡ map (slot_items k (volume as')) (tables_in fs)
  slot-rows k as' ass e [] h = refl
  slot-rows k as' ass e (None ∷ fs) h =
      ap (λ x. x ∷ map (λ s. row as' (first_grid (drop k (cells_or z s)))) (slots_of fs)) (zero-row k full as' ass e)
      ∙ ap (λ l. zeros (volume as') ∷ l) (slot-rows k as' ass e fs h.1)
  slot-rows k as' ass e (Some s ∷ fs) h =
      ap (λ x. x ∷ map (λ s. row as' (first_grid (drop k (cells_or z s)))) (slots_of fs)) (table-row k full as' ass s.1 e d h.0)
      ∙ ap (λ l. items_of_table k s.1 ∷ l) (slot-rows k as' ass e fs h.1)

  -- they are blocks of one length
  slot-lengths : (k : ℕ) (as' : Axes) (ss : List (Option Slot)) → AllOf (map (λ s. row as' (first_grid (drop k (cells_or z s)))) ss) (λ xs. length xs ≡ volume as')
  slot-lengths k as' [] = tt
  slot-lengths k as' (s ∷ ss) = (row-length as' (first_grid (drop k (cells_or z s))), slot-lengths k as' ss)

  -- one table under the layer's axes
  stacked-row : (k : ℕ) (as' : Axes) (ass : List Axes) → drop k full ≡ as' ∷ ass → (fs : List (Option Filled)) → AllOf fs (FilledOver full) →
      row (bs ++ as') (λ is. first_grid (drop k (cells_in_place z (lists_of bs) (slots_of fs) (take (length bs) is))) (drop (length bs) is)) ≡
      fitted (volume (bs ++ as')) (items_in_turn k (volume as') (tables_in fs))
  stacked-row k as' ass e fs h =
      joined-row bs as' (λ js. drop k (cells_in_place z (lists_of bs) (slots_of fs) js))
      ∙ ap append_all (in-places (λ c. row as' (first_grid (drop k c))) z (lists_of bs) (slots_of fs) (places-differ bs b))
      ∙ ap (λ x. append_all (filled_up x (length (lists_of bs)) rows)) (none-row k as')
      ∙ blocks-fitted (length (lists_of bs)) (volume as') rows (slot-lengths k as' (slots_of fs))
      ∙ ap (λ n. fitted n (append_all rows)) (ap (λ n. n * volume as') (places-count bs) ∙ sym (volume-both bs))
      ∙ ap (λ l. fitted (volume (bs ++ as')) (append_all l)) (slot-rows k as' ass e fs h)
    where
      rows : List (List ℤ)
      rows = map (λ s. row as' (first_grid (drop k (cells_or z s)))) (slots_of fs)

      volume-both : (cs : Axes) → volume (cs ++ as') ≡ volume cs * volume as'
      volume-both [] = sym (one-mul (volume as'))
      volume-both (c ∷ cs) = ap (λ n. length c * n) (volume-both cs) ∙ sym (mul_assoc (length c) (volume cs) (volume as'))

  -- the tables from one on
  stacked-tables-from : (k : ℕ) (ass : List Axes) → drop k full ≡ ass → (fs : List (Option Filled)) → AllOf fs (FilledOver full) →
      tables_over (map (λ as'. bs ++ as') ass) (joined (length bs) (length ass) (λ js. drop k (cells_in_place z (lists_of bs) (slots_of fs) js))) ≡
      stacked_from k bs ass (tables_in fs)
  stacked-tables-from k [] e fs h = refl
  stacked-tables-from k (as' ∷ ass) e fs h =
      ap (λ l. record { axes = bs ++ as'; items = l } ∷ rest (λ js. other_grids (drop k (cells_in_place z (lists_of bs) (slots_of fs) js)))) (stacked-row k as' ass e fs h)
      ∙ ap (λ p. stacked_table bs k as' (tables_in fs) ∷ rest p) (fun_ext (λ js. others-drop k (cells_in_place z (lists_of bs) (slots_of fs) js)))
      ∙ ap (λ l. stacked_table bs k as' (tables_in fs) ∷ l) (stacked-tables-from (suc k) ass (drop-one k full as' ass e) fs h)
    where
      rest : (List ℤ → Cells) → Tables
      rest p = tables_over (map (λ as'. bs ++ as') ass) (joined (length bs) (length ass) p)

  -- The tables of slots in their places, over the layer's axes.
  pub stacked-tables : (fs : List (Option Filled)) → AllOf fs (FilledOver full) → tables_over (map (λ as'. bs ++ as') full) (placed full bs (slots_of fs)) ≡ stacked bs full (tables_in fs)
  stacked-tables fs h = stacked-tables-from 0 full refl fs h
