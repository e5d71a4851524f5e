-- Layers of sorted slots on rows: sets and multisets in slots.
use Rattle.std.proofs.Common.{◌≡◌, refl, sym, ap, ◌∙◌, ℕ, zero, suc, ◌*◌, ◌-◌, true, false, if◌then◌else◌, List, [], ◌∷◌, ◌++◌, map, length, take, drop, replicate, ℤ, pos, Option, Some, None, is_some, arith}
use Rattle.std.specs.declared.cmp.Ordering.{Ordering}
use Rattle.std.specs.declared.cmp.Ordering.TheVariants.{Less, Equal, Greater}
use Rattle.ess_semantics.specs.declared.words.ReprKind.{ReprKind}
use Rattle.ess_semantics.specs.Lists.{and_then, or_default, append_all, only_of, zip}
use Rattle.ess_semantics.specs.Order.{same_int}
use Rattle.ess_semantics.specs.Values.{Value, items_of}
use Rattle.ess_semantics.specs.Collections.{sorted_once}
use Rattle.ess_semantics.specs.Numbers.{one_to}
use Rattle.ess_semantics.specs.Trees.{Repr, repr, no_reprs, more_reprs}
use Rattle.ess_semantics.specs.Domains.{Attribute, Domain, sets, msets, lists_of}
use Rattle.ess_semantics.specs.Sizes.{slots_of_set, slots_of_mset}
use Rattle.ess_semantics.specs.Tables.{Tables, volume, chunk, item_in, truth_number, one_cell, row_of}
use Rattle.ess_semantics.specs.Cells.{Axes, cells_of, gather, row, order_rows, tables_over}
use Rattle.ess_semantics.specs.Layers.{Layer, some_each, how_many}
use Rattle.ess_semantics.specs.SetLayers.{explicit_layer, marker_layer, flags_layer}
use Rattle.ess_semantics.specs.MultisetLayers.{repetition_layer, mset_flags_layer, occurs, slot_count}
use Rattle.ess_semantics.specs.Tidy.{over_axes}
use Rattle.ess_semantics.specs.Declarations.{axes_of}
use Rattle.ess_semantics.specs.Canonical.{somes}
use Rattle.ess_semantics.specs.OneLayer.{layer_tables}
use Rattle.ess_semantics.proofs.Tests.{run-length}
use Rattle.ess_semantics.proofs.Orders.{same_int-itself}
use Rattle.ess_repr_laws.proofs.RowsOfCells.{gather-same, each-map}
use Rattle.ess_repr_laws.proofs.CanonicalPlaces.{AllOf}
use Rattle.ess_repr_laws.proofs.TablesAndCells.{NumbersDiffer, AxesDiffer, AllAxesDiffer}
use Rattle.ess_repr_laws.proofs.AxesOfTables.{run-differs}
use Rattle.ess_repr_rows_laws.specs.SlotOrder.{rows_in, put_by, put_in, by_rows, Filled, filled, tables_in, in_places}
use Rattle.ess_repr_rows_laws.specs.Stacking.{zeros, fitted, slot_items, items_in_turn, stacked_table, stacked_from, stacked}
use Rattle.ess_repr_rows_laws.specs.RowLayers.{all_used, slot_tables, marked_tables, flagged_slot_tables, counted_rows, counted_tables}
use Rattle.ess_repr_rows_laws.proofs.Blocks.{append_all-append, map-twice, map-both, map-length, zeros-sum, fitted-none, fitted-zero, fitted-cons, block-more}
use Rattle.ess_repr_rows_laws.proofs.Stacked.{slots_of}
use Rattle.ess_repr_rows_laws.proofs.SlotsInOrder.{slot_rows}
use Rattle.ess_repr_rows_laws.proofs.LayerDownRows.{tables-with-child}

-- ---- sorted lists

-- What is sorted by the rows of its images has the sorted images.
pub by-rows-map : {A B : Type 0} (g : A → B) (f : B → List (List ℤ)) (xs : List A) → map g (by_rows (λ x. f (g x)) xs) ≡ by_rows f (map g xs)
by-rows-map g f [] = refl
by-rows-map {A = A} g f (x ∷ xs) = put (by_rows (λ x. f (g x)) xs) ∙ ap (put_in f (g x)) (by-rows-map g f xs)
  where
    put : (ys : List A) → map g (put_in (λ x. f (g x)) x ys) ≡ put_in f (g x) (map g ys)
    put [] = refl
    put (y ∷ ys) = go (order_rows (f (g x)) (f (g y))) ∙ ap (put_by (order_rows (f (g x)) (f (g y))) (g x) (g y) (map g ys)) (put ys)
      where
        go : (o : Ordering) → map g (put_by o x y ys (put_in (λ x. f (g x)) x ys)) ≡ put_by o (g x) (g y) (map g ys) (map g (put_in (λ x. f (g x)) x ys))
        go Less = refl
        go Equal = refl
        go Greater = refl

-- Sorted lists are as long.
pub by-rows-length : {A : Type 0} (f : A → List (List ℤ)) (xs : List A) → length (by_rows f xs) ≡ length xs
by-rows-length f [] = refl
by-rows-length {A = A} f (x ∷ xs) = put (by_rows f xs) ∙ ap suc (by-rows-length f xs)
  where
    put : (ys : List A) → length (put_in f x ys) ≡ suc (length ys)
    put [] = refl
    put (y ∷ ys) = go (order_rows (f x) (f y)) (put ys)
      where
        go : (o : Ordering) → length (put_in f x ys) ≡ suc (length ys) → length (put_by o x y ys (put_in f x ys)) ≡ suc (suc (length ys))
        go Less ih = refl
        go Equal ih = refl
        go Greater ih = ap suc ih

-- ---- slots out of use behind the others

-- Zeros behind the items don't count.
pub fitted-zeros : (n m : ℕ) (xs : List ℤ) → fitted n (xs ++ zeros m) ≡ fitted n xs
fitted-zeros zero m xs = fitted-zero (xs ++ zeros m) ∙ sym (fitted-zero xs)
fitted-zeros (suc n) m (x ∷ xs) = fitted-cons x (xs ++ zeros m) n ∙ ap (λ l. x ∷ l) (fitted-zeros n m xs) ∙ sym (fitted-cons x xs n)
fitted-zeros (suc n) zero [] = refl
fitted-zeros (suc n) (suc m) [] = fitted-cons (pos 0) (zeros m) n ∙ ap (λ l. pos 0 ∷ l) (fitted-zeros n m [] ∙ fitted-none n) ∙ sym (fitted-none (suc n))

turn-unused : (k v : ℕ) (ss : List (Option Tables)) (n : ℕ) → items_in_turn k v (ss ++ replicate n None) ≡ items_in_turn k v ss ++ zeros (n * v)
turn-unused k v ss n =
    ap append_all (map-both (slot_items k v) ss (replicate n None)) ∙ append_all-append (map (slot_items k v) ss) (map (slot_items k v) (replicate n None))
    ∙ ap (λ l. items_in_turn k v ss ++ l) (none n)
  where
    none : (n : ℕ) → append_all (map (slot_items k v) (replicate n None)) ≡ zeros (n * v)
    none zero = let q : 0 * v ≡ 0 = omega arith in ap zeros (sym q)
    none (suc n) = ap (λ l. zeros v ++ l) (none n) ∙ sym (zeros-sum v (n * v)) ∙ ap zeros (sym (block-more n v))

-- Slots out of use behind the others don't count.
pub stacked-unused : (k : ℕ) (bs : Axes) (ass : List Axes) (ss : List (Option Tables)) (n : ℕ) → stacked_from k bs ass (ss ++ replicate n None) ≡ stacked_from k bs ass ss
stacked-unused k bs [] ss n = refl
stacked-unused k bs (as' ∷ ass) ss n =
    ap (λ l. record { axes = bs ++ as'; items = l } ∷ stacked_from (suc k) bs ass (ss ++ replicate n None))
    (ap (fitted (volume (bs ++ as'))) (turn-unused k (volume as') ss n) ∙ fitted-zeros (volume (bs ++ as')) (n * volume as') (items_in_turn k (volume as') ss))
    ∙ ap (λ l. stacked_table bs k as' ss ∷ l) (stacked-unused (suc k) bs ass ss n)

-- ---- own tables over one axis

-- The row of a table over one axis: its items, as many as there are members.
pub row-fitted : (a : List ℤ) → NumbersDiffer a → (is : List ℤ) → row (a ∷ []) (item_in (a ∷ []) is) ≡ fitted (length a) is
row-fitted [] d is = sym (fitted-zero is)
row-fitted (k ∷ ks) d is =
    ap (λ b. or_default (and_then (if b then Some (take 1 is) else chunk ks 1 (drop 1 is) k) (λ c. item_in [] c [])) (pos 0) ∷ others) (same_int-itself k)
    ∙ ap (λ l. or_default (only_of (take 1 is)) (pos 0) ∷ l)
    (gather-same ks (λ j. cell (chunk (k ∷ ks) 1 is j)) (λ j. cell (chunk ks 1 (drop 1 is) j))
    (each-map ks (λ j. same_int k j ≡ false) _ (λ j f. ap (λ b. cell (if b then Some (take 1 is) else chunk ks 1 (drop 1 is) j)) f) d.0)
    ∙ row-fitted ks d.1 (drop 1 is))
    ∙ front is
  where
    cell : Option (List ℤ) → List ℤ
    cell o = or_default (and_then o (λ c. item_in [] c [])) (pos 0) ∷ []

    others : List ℤ
    others = gather ks (λ j. cell (chunk (k ∷ ks) 1 is j))

    front : (is : List ℤ) → or_default (only_of (take 1 is)) (pos 0) ∷ fitted (length ks) (drop 1 is) ≡ fitted (suc (length ks)) is
    front [] = ap (λ l. pos 0 ∷ l) (fitted-none (length ks)) ∙ sym (fitted-none (suc (length ks)))
    front (i ∷ is) = sym (fitted-cons i is (length ks))

slot-row : (n : ℕ) (is : List ℤ) → tables_over ((one_to n ∷ []) ∷ []) (cells_of (row_of (one_to n) is ∷ [])) ≡ row_of (one_to n) (fitted n is) ∷ []
slot-row n is = ap (λ l. row_of (one_to n) l ∷ []) (row-fitted (one_to n) (run-differs 1 n) is ∙ ap (λ m. fitted m is) (run-length 1 n))

-- ---- the slots of sets and multisets

-- The inner values with their tables.
somes-filled : (xs : List Value) (tss : List Tables) → somes (filled (some_each xs) tss) ≡ zip xs tss
somes-filled [] tss = refl
somes-filled (x ∷ xs) [] = none xs
  where
    none : (xs : List Value) → somes (filled (some_each xs) []) ≡ []
    none [] = refl
    none (x ∷ xs) = none xs
somes-filled (x ∷ xs) (ts ∷ tss) = ap (λ l. (x, ts) ∷ l) (somes-filled xs tss)

zip-tables : (xs : List Value) (tss : List Tables) → length tss ≡ length xs → map (λ s. s.1) (zip xs tss) ≡ tss
zip-tables [] [] e = refl
zip-tables [] (ts ∷ tss) e = cc
zip-tables (x ∷ xs) [] e = cc
zip-tables (x ∷ xs) (ts ∷ tss) e = let q : length tss ≡ length xs = cc in ap (λ l. ts ∷ l) (zip-tables xs tss q)

tables-used : (ss : List Filled) (n : ℕ) → tables_in (map (λ s. Some s) ss ++ replicate n None) ≡ map (λ s. Some s.1) ss ++ replicate n None
tables-used [] zero = refl
tables-used [] (suc n) = ap (λ l. None ∷ l) (tables-used [] n)
tables-used (s ∷ ss) n = ap (λ l. Some s.1 ∷ l) (tables-used ss n)

many-used : (ss : List Filled) (n : ℕ) → how_many (slots_of (map (λ s. Some s) ss ++ replicate n None)) ≡ length ss
many-used [] zero = refl
many-used [] (suc n) = many-used [] n
many-used (s ∷ ss) n = ap suc (many-used ss n)

flags-used : (ss : List Filled) (n : ℕ) → map (λ s. truth_number (is_some s)) (slots_of (map (λ s. Some s) ss ++ replicate n None)) ≡ replicate (length ss) (pos 1) ++ zeros n
flags-used [] zero = refl
flags-used [] (suc n) = ap (λ l. pos 0 ∷ l) (flags-used [] n)
flags-used (s ∷ ss) n = ap (λ l. pos 1 ∷ l) (flags-used ss n)

counts-used : (v : Value) (ss : List Filled) (n : ℕ) → map (slot_count v) (slots_of (map (λ s. Some s) ss ++ replicate n None)) ≡ map (λ s. occurs v s.0) ss ++ zeros n
counts-used v [] zero = refl
counts-used v [] (suc n) = ap (λ l. pos 0 ∷ l) (counts-used v [] n)
counts-used v (s ∷ ss) n = ap (λ l. occurs v s.0 ∷ l) (counts-used v ss n)

module _ (xs : List Value) (tss : List Tables) (long : length tss ≡ length xs) where
  -- The slots in use, in order.
  abbrev sorted : List Filled
  sorted = by_rows slot_rows (zip xs tss)

  -- their tables
  sorted-tables : map (λ s. s.1) sorted ≡ by_rows rows_in tss
  sorted-tables = by-rows-map (λ (s : Filled). s.1) rows_in (zip xs tss) ∙ ap (by_rows rows_in) (zip-tables xs tss long)

  sorted-length : length sorted ≡ length tss
  sorted-length = sym (map-length (λ (s : Filled). s.1) sorted) ∙ ap length sorted-tables ∙ by-rows-length rows_in tss

  stacked-used : (bs : Axes) (ass : List Axes) (n : ℕ) → stacked bs ass (tables_in (map (λ s. Some s) sorted ++ replicate n None)) ≡ stacked bs ass (all_used (by_rows rows_in tss))
  stacked-used bs ass n =
      ap (stacked bs ass) (tables-used sorted n) ∙ stacked-unused 0 bs ass (map (λ s. Some s.1) sorted) n
      ∙ ap (stacked bs ass) (sym (map-twice (λ (ts : Tables). Some ts) (λ (s : Filled). s.1) sorted) ∙ ap all_used sorted-tables)

-- The slots in their places, of a layer that sorts them.
slots-sorted : (l : Layer) (xs : List Value) (tss : List Tables) → l.is_sorted ≡ true →
    (n : ℕ) × (in_places l (filled (some_each xs) tss) ≡ map (λ s. Some s) (by_rows slot_rows (zip xs tss)) ++ replicate n None)
slots-sorted l xs tss h = (room, ap (λ b. if b then map (λ s. Some s) (by_rows slot_rows (somes fs)) ++ replicate room None else fs) h ∙ ap (λ ss. map (λ s. Some s) (by_rows slot_rows ss) ++ replicate room None) (somes-filled xs tss))
  where
    fs : List (Option Filled)
    fs = filled (some_each xs) tss

    room : ℕ
    room = length (lists_of l.axes) - length (somes fs)

-- ---- kinds

module _ (r : Repr) (ks : List Attribute) (e : Domain) (v : Value) (tss : List Tables) (inner : AllAxesDiffer (axes_of r e)) (over : AllOf tss (λ ts. over_axes [] (axes_of r e) ts ≡ true)) where
  abbrev n : ℕ
  n = slots_of_set ks e

  abbrev m : ℕ
  m = slots_of_mset ks e

  differ : (n : ℕ) → AxesDiffer (one_to n ∷ [])
  differ n = (run-differs 1 n, tt)

  -- All slots in use.
  pub explicit-rows : length tss ≡ length (items_of v) →
      layer_tables (repr ReprKind.Explicit (more_reprs r no_reprs)) (sets ks e) v tss ≡ Some (slot_tables n (axes_of r e) tss)
  explicit-rows long =
      let s = slots-sorted (explicit_layer ks e) (items_of v) tss refl in
      tables-with-child ReprKind.Explicit r (sets ks e) e (explicit_layer ks e) v (some_each (items_of v)) tss refl refl refl (differ n) inner over refl
      ∙ ap (λ ss. Some (stacked (one_to n ∷ []) (axes_of r e) (tables_in ss))) s.1 ∙ ap Some (stacked-used (items_of v) tss long (one_to n ∷ []) (axes_of r e) s.0)

  -- Up to a marker.
  pub marker-rows : length tss ≡ length (items_of v) →
      layer_tables (repr ReprKind.ExplicitVarSizeWithMarker (more_reprs r no_reprs)) (sets ks e) v tss ≡ Some (marked_tables n (axes_of r e) tss)
  marker-rows long =
      let s = slots-sorted (marker_layer ks e) (items_of v) tss refl in
      tables-with-child ReprKind.ExplicitVarSizeWithMarker r (sets ks e) e (marker_layer ks e) v (some_each (items_of v)) tss refl refl refl (differ n) inner over refl
      ∙ ap (λ ss. Some (one_cell (pos (how_many (slots_of ss))) ∷ stacked (one_to n ∷ []) (axes_of r e) (tables_in ss))) s.1
      ∙ ap (λ k. Some (one_cell (pos k) ∷ stacked (one_to n ∷ []) (axes_of r e) (tables_in (map (λ s. Some s) (sorted (items_of v) tss long) ++ replicate s.0 None))))
      (many-used (sorted (items_of v) tss long) s.0 ∙ sorted-length (items_of v) tss long)
      ∙ ap (λ l. Some (one_cell (pos (length tss)) ∷ l)) (stacked-used (items_of v) tss long (one_to n ∷ []) (axes_of r e) s.0)

  -- With flags.
  pub flags-rows : length tss ≡ length (items_of v) →
      layer_tables (repr ReprKind.ExplicitVarSizeWithFlags (more_reprs r no_reprs)) (sets ks e) v tss ≡ Some (flagged_slot_tables n (axes_of r e) tss)
  flags-rows long =
      let s = slots-sorted (flags_layer ks e) (items_of v) tss refl in
      tables-with-child ReprKind.ExplicitVarSizeWithFlags r (sets ks e) e (flags_layer ks e) v (some_each (items_of v)) tss refl refl refl (differ n) inner over refl
      ∙ ap (λ ss. Some (flags (map (λ s. truth_number (is_some s)) (slots_of ss)) ++ stacked (one_to n ∷ []) (axes_of r e) (tables_in ss))) s.1
      ∙ ap (λ l. Some (l ++ stacked (one_to n ∷ []) (axes_of r e) (tables_in (map (λ s. Some s) (sorted (items_of v) tss long) ++ replicate s.0 None))))
      (ap flags (flags-used (sorted (items_of v) tss long) s.0) ∙ slot-row n (replicate (length (sorted (items_of v) tss long)) (pos 1) ++ zeros s.0)
      ∙ ap (λ l. row_of (one_to n) l ∷ []) (fitted-zeros n s.0 (replicate (length (sorted (items_of v) tss long)) (pos 1)) ∙ ap (λ k. fitted n (replicate k (pos 1))) (sorted-length (items_of v) tss long)))
      ∙ ap (λ l. Some (row_of (one_to n) (fitted n (replicate (length tss) (pos 1))) ∷ l)) (stacked-used (items_of v) tss long (one_to n ∷ []) (axes_of r e) s.0)
    where
      flags : List ℤ → Tables
      flags is = tables_over ((one_to n ∷ []) ∷ []) (cells_of (row_of (one_to n) is ∷ []))

  -- Multisets up to a marker.
  pub repetition-rows : length tss ≡ length (items_of v) →
      layer_tables (repr ReprKind.MSetExplicitWithRepetition (more_reprs r no_reprs)) (msets ks e) v tss ≡ Some (marked_tables m (axes_of r e) tss)
  repetition-rows long =
      let s = slots-sorted (repetition_layer ks e) (items_of v) tss refl in
      tables-with-child ReprKind.MSetExplicitWithRepetition r (msets ks e) e (repetition_layer ks e) v (some_each (items_of v)) tss refl refl refl (differ m) inner over refl
      ∙ ap (λ ss. Some (one_cell (pos (how_many (slots_of ss))) ∷ stacked (one_to m ∷ []) (axes_of r e) (tables_in ss))) s.1
      ∙ ap (λ k. Some (one_cell (pos k) ∷ stacked (one_to m ∷ []) (axes_of r e) (tables_in (map (λ s. Some s) (sorted (items_of v) tss long) ++ replicate s.0 None))))
      (many-used (sorted (items_of v) tss long) s.0 ∙ sorted-length (items_of v) tss long)
      ∙ ap (λ l. Some (one_cell (pos (length tss)) ∷ l)) (stacked-used (items_of v) tss long (one_to m ∷ []) (axes_of r e) s.0)

  -- Multisets with a number of times for each slot.
  pub counts-rows :
      layer_tables (repr ReprKind.MSetExplicitWithFlags (more_reprs r no_reprs)) (msets ks e) v tss ≡
      Some (counted_tables m (axes_of r e) (zip (map (occurs v) (sorted_once (items_of v))) tss))
  counts-rows =
      let s = slots-sorted (mset_flags_layer ks e) xs tss refl in
      tables-with-child ReprKind.MSetExplicitWithFlags r (msets ks e) e (mset_flags_layer ks e) v (some_each xs) tss refl refl refl (differ m) inner over refl
      ∙ ap (λ ss. Some (counts (map (slot_count v) (slots_of ss)) ++ stacked (one_to m ∷ []) (axes_of r e) (tables_in ss))) s.1
      ∙ ap (λ l. Some (l ++ stacked (one_to m ∷ []) (axes_of r e) (tables_in (map (λ s. Some s) ss ++ replicate s.0 None))))
      (ap counts (counts-used v ss s.0) ∙ slot-row m (map (λ s. occurs v s.0) ss ++ zeros s.0)
      ∙ ap (λ l. row_of (one_to m) l ∷ []) (fitted-zeros m s.0 (map (λ s. occurs v s.0) ss) ∙ ap (fitted m) (sym (map-twice (λ (c : ℤ × Tables). c.0) with_count ss) ∙ ap (map (λ c. c.0)) in-order)))
      ∙ ap (λ l. Some (row_of (one_to m) (fitted m (map (λ c. c.0) (by_rows counted_rows cs))) ∷ l))
      (ap (stacked (one_to m ∷ []) (axes_of r e)) (tables-used ss s.0) ∙ stacked-unused 0 (one_to m ∷ []) (axes_of r e) (map (λ s. Some s.1) ss) s.0
      ∙ ap (stacked (one_to m ∷ []) (axes_of r e)) (sym (map-twice (λ (c : ℤ × Tables). Some c.1) with_count ss) ∙ ap (map (λ c. Some c.1)) in-order))
    where
      xs : List Value
      xs = sorted_once (items_of v)

      ss : List Filled
      ss = by_rows slot_rows (zip xs tss)

      cs : List (ℤ × Tables)
      cs = zip (map (occurs v) xs) tss

      with_count : Filled → ℤ × Tables
      with_count s = (occurs v s.0, s.1)

      zips : (xs : List Value) (tss : List Tables) → map with_count (zip xs tss) ≡ zip (map (occurs v) xs) tss
      zips [] tss = refl
      zips (x ∷ xs) [] = refl
      zips (x ∷ xs) (ts ∷ tss) = ap (λ l. (occurs v x, ts) ∷ l) (zips xs tss)

      in-order : map with_count ss ≡ by_rows counted_rows cs
      in-order = by-rows-map with_count counted_rows (zip xs tss) ∙ ap (by_rows counted_rows) (zips xs tss)

      counts : List ℤ → Tables
      counts is = tables_over ((one_to m ∷ []) ∷ []) (cells_of (row_of (one_to m) is ∷ []))
