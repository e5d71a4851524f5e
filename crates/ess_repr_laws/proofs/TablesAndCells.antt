-- Tables over axes have the cells that they are made of, and filled tables with the same rows are one.
use Rattle.std.proofs.Common.{◌≡◌, refl, sym, ap, ◌∙◌, ℕ, zero, suc, ◌+◌, ◌*◌, Bool, true, false, ◌&&◌, if◌then◌else◌, List, [], ◌∷◌, ◌++◌, take, drop, length, ℤ, pos, Some, zero-mul, suc-mul, length-append, arith}
use Rattle.std.proofs.lemmas.Bool.{eqb-true}
use Rattle.std.specs.List.{list_any}
use Rattle.ess_semantics.specs.Lists.{and_then, or_default}
use Rattle.ess_semantics.specs.Order.{same_int, same_ints}
use Rattle.ess_semantics.specs.Tables.{Table, Tables, volume, chunk, item_in, cell_at, same_axes, is_filled}
use Rattle.ess_semantics.specs.Cells.{Grid, Cells, Axes, cells_of, gather, row, rows, is_index, table_over, tables_over}
use Rattle.ess_semantics.specs.Tidy.{over_axes}
use Rattle.ess_semantics.proofs.Tests.{and-left, and-right, if-not}
use Rattle.ess_semantics.proofs.Orders.{same_int-equal, same_int-itself, same_ints-equal}
use Rattle.ess_repr_laws.proofs.RowsOfCells.{EachOf, gather-same, each-map}

-- ---- parts of lists

take-append : (xs ys : List ℤ) → take (length xs) (xs ++ ys) ≡ xs
take-append [] ys = refl
take-append (x ∷ xs) ys = ap (λ l. x ∷ l) (take-append xs ys)

drop-append : (xs ys : List ℤ) → drop (length xs) (xs ++ ys) ≡ ys
drop-append [] ys = refl
drop-append (x ∷ xs) ys = drop-append xs ys

take-drop : (n : ℕ) (xs : List ℤ) → take n xs ++ drop n xs ≡ xs
take-drop zero xs = refl
take-drop (suc n) [] = refl
take-drop (suc n) (x ∷ xs) = ap (λ l. x ∷ l) (take-drop n xs)

take-length : (n m : ℕ) (xs : List ℤ) → length xs ≡ n + m → length (take n xs) ≡ n
take-length zero m xs e = refl
take-length (suc n) m [] e = let z : 0 ≡ suc n + m = e in absurd (omega arith)
take-length (suc n) m (x ∷ xs) e = let z : suc (length xs) ≡ suc n + m = e in let f : length xs ≡ n + m = omega arith in ap suc (take-length n m xs f)

drop-length : (n m : ℕ) (xs : List ℤ) → length xs ≡ n + m → length (drop n xs) ≡ m
drop-length zero m xs e = omega arith
drop-length (suc n) m [] e = let z : 0 ≡ suc n + m = e in absurd (omega arith)
drop-length (suc n) m (x ∷ xs) e = let z : suc (length xs) ≡ suc n + m = e in let f : length xs ≡ n + m = omega arith in drop-length n m xs f

-- ---- tables that are made of cells

more : (k v : ℕ) → v + k * v ≡ suc k * v
more k v = let x = suc-mul k v in omega arith

-- A row has as many items as cells over the axes.
pub row-length : (as' : Axes) (f : Grid) → length (row as' f) ≡ volume as'
row-length [] f = refl
row-length (a ∷ as') f = go a (λ k. row-length as' (λ js. f (k ∷ js)))
  where
    go : (ks : List ℤ) → ((k : ℤ) → length (row as' (λ js. f (k ∷ js))) ≡ volume as') → length (gather ks (λ k. row as' (λ js. f (k ∷ js)))) ≡ length ks * volume as'
    go [] h = sym (zero-mul (volume as'))
    go (k ∷ ks) h =
        length-append (row as' (λ js. f (k ∷ js))) (gather ks (λ k. row as' (λ js. f (k ∷ js))))
        ∙ ap (λ n. n + length (gather ks (λ k. row as' (λ js. f (k ∷ js))))) (h k) ∙ ap (λ n. volume as' + n) (go ks h)
        ∙ more (length ks) (volume as')

-- the items at a member of the first axis
chunk-of-rows : (v : ℕ) (F : ℤ → List ℤ) → ((k : ℤ) → length (F k) ≡ v) → (ks : List ℤ) (j : ℤ) → list_any (same_int j) ks ≡ true → chunk ks v (gather ks F) j ≡ Some (F j)
chunk-of-rows v F l [] j h = cc
chunk-of-rows v F l (k ∷ ks) j h = go (same_int k j) refl (chunk-of-rows v F l ks j)
  where
    rest : same_int k j ≡ false → list_any (same_int j) ks ≡ true
    rest e = if-not (same_int j k) (list_any (same_int j) ks) (other (same_int j k) refl) h
      where
        other : (b : Bool) → same_int j k ≡ b → same_int j k ≡ false
        other false p = p
        other true p = let t : true ≡ false = sym (same_int-itself j) ∙ ap (λ z. same_int z j) (same_int-equal j k p) ∙ e in cc

    go : (b : Bool) → same_int k j ≡ b → (list_any (same_int j) ks ≡ true → chunk ks v (gather ks F) j ≡ Some (F j)) →
        (if b then Some (take v (F k ++ gather ks F)) else chunk ks v (drop v (F k ++ gather ks F)) j) ≡ Some (F j)
    go true e ih = ap (λ n. Some (take n (F k ++ gather ks F))) (sym (l k)) ∙ ap Some (take-append (F k) (gather ks F)) ∙ ap (λ z. Some (F z)) (same_int-equal k j e)
    go false e ih = ap (λ n. chunk ks v (drop n (F k ++ gather ks F)) j) (sym (l k)) ∙ ap (λ is. chunk ks v is j) (drop-append (F k) (gather ks F)) ∙ ih (rest e)

-- A table over axes has at each index list the cell that it is made of.
pub cell-of-row : (as' : Axes) (f : Grid) (js : List ℤ) → is_index as' js ≡ true → cell_at (table_over as' f) js ≡ Some (or_default (f js) (pos 0))
cell-of-row [] f [] h = refl
cell-of-row [] f (j ∷ js) h = cc
cell-of-row (a ∷ as') f [] h = cc
cell-of-row (a ∷ as') f (j ∷ js) h =
    ap (λ o. and_then o (λ c. item_in as' c js))
    (chunk-of-rows (volume as') (λ k. row as' (λ js. f (k ∷ js))) (λ k. row-length as' (λ js. f (k ∷ js))) a j (and-left (list_any (same_int j) a) (is_index as' js) h))
    ∙ cell-of-row as' (λ is. f (j ∷ is)) js (and-right (list_any (same_int j) a) (is_index as' js) h)

-- ---- cells that are read from tables

-- no two members of an axis are equal
abbrev pub NumbersDiffer : List ℤ → Type 0
NumbersDiffer [] = Unit {0}
NumbersDiffer (k ∷ ks) = EachOf ks (λ j. same_int k j ≡ false) × NumbersDiffer ks

-- No axis has a number twice.
abbrev pub AxesDiffer : Axes → Type 0
AxesDiffer [] = Unit {0}
AxesDiffer (a ∷ as') = NumbersDiffer a × AxesDiffer as'

-- The same of several tables.
abbrev pub AllAxesDiffer : List Axes → Type 0
AllAxesDiffer [] = Unit {0}
AllAxesDiffer (as' ∷ ass) = AxesDiffer as' × AllAxesDiffer ass

-- The cells of a filled table, row by row, are its items.
pub row-of-items : (as' : Axes) → AxesDiffer as' → (is : List ℤ) → length is ≡ volume as' → row as' (item_in as' is) ≡ is
row-of-items [] d [] e = cc
row-of-items [] d (i ∷ []) e = refl
row-of-items [] d (i ∷ k ∷ is) e = cc
row-of-items (a ∷ as') d is e = go a d.0 is e (λ is e. row-of-items as' d.1 is e)
  where
    go : (ks : List ℤ) → NumbersDiffer ks → (is : List ℤ) → length is ≡ length ks * volume as' → ((is : List ℤ) → length is ≡ volume as' → row as' (item_in as' is) ≡ is) →
        gather ks (λ k. row as' (λ js. and_then (chunk ks (volume as') is k) (λ c. item_in as' c js))) ≡ is
    go [] d [] e ih = refl
    go [] d (i ∷ is) e ih = let z : suc (length is) ≡ 0 = e ∙ zero-mul (volume as') in cc
    go (k ∷ ks) d is e ih =
        ap (λ b. row as' (λ js. and_then (if b then Some (take (volume as') is) else chunk ks (volume as') (drop (volume as') is) k) (λ c. item_in as' c js)) ++ others) (same_int-itself k)
        ∙ ap (λ l. l ++ others) (ih (take (volume as') is) (take-length (volume as') (length ks * volume as') is (e ∙ sym (more (length ks) (volume as')))))
        ∙ ap (λ l. take (volume as') is ++ l)
        (gather-same ks (λ j. row as' (λ js. and_then (chunk (k ∷ ks) (volume as') is j) (λ c. item_in as' c js))) (λ j. row as' (λ js. and_then (chunk ks (volume as') (drop (volume as') is) j) (λ c. item_in as' c js)))
        (each-map ks (λ j. same_int k j ≡ false) _ (λ j f. ap (λ b. row as' (λ js. and_then (if b then Some (take (volume as') is) else chunk ks (volume as') (drop (volume as') is) j) (λ c. item_in as' c js))) f) d.0)
        ∙ go ks d.1 (drop (volume as') is) (drop-length (volume as') (length ks * volume as') is (e ∙ sym (more (length ks) (volume as')))) ih)
        ∙ take-drop (volume as') is
      where
        others : List ℤ
        others = gather ks (λ j. row as' (λ js. and_then (chunk (k ∷ ks) (volume as') is j) (λ c. item_in as' c js)))

-- ---- tables with the same rows

same-axes : (xs ys : Axes) → same_axes xs ys ≡ true → xs ≡ ys
same-axes [] [] e = refl
same-axes [] (y ∷ ys) e = cc
same-axes (x ∷ xs) [] e = cc
same-axes (x ∷ xs) (y ∷ ys) e = cong2 (same_ints-equal x y (and-left (same_ints x y) (same_axes xs ys) e)) (same-axes xs ys (and-right (same_ints x y) (same_axes xs ys) e))
  where
    cong2 : x ≡ y → xs ≡ ys → x ∷ xs ≡ y ∷ ys
    cong2 p q = cc

-- a table over axes is what its cells make over them
table-itself : (as' : Axes) (t : Table) → AxesDiffer as' → is_filled t && same_axes t.axes as' ≡ true → table_over as' (cell_at t) ≡ t
table-itself as' t d h =
    let e = same-axes t.axes as' (and-right (is_filled t) (same_axes t.axes as') h) in
    let n = eqb-true (length t.items) (volume t.axes) (and-left (is_filled t) (same_axes t.axes as') h) in
    let r : row as' (item_in t.axes t.items) ≡ t.items = ap (λ x. row as' (item_in x t.items)) e ∙ row-of-items as' d t.items (n ∙ ap volume e) in
    ap (λ x. table x (row as' (cell_at t))) (sym e) ∙ ap (table t.axes) r
  where
    table : Axes → List ℤ → Table
    table x is = record { axes = x; items = is }

-- Tables over axes are what their cells make over them.
pub tables-themselves : (ass : List Axes) (ts : Tables) → AllAxesDiffer ass → over_axes [] ass ts ≡ true → tables_over ass (cells_of ts) ≡ ts
tables-themselves [] [] d h = refl
tables-themselves [] (t ∷ ts) d h = cc
tables-themselves (as' ∷ ass) [] d h = cc
tables-themselves (as' ∷ ass) (t ∷ ts) d h =
    let one = and-left (is_filled t && same_axes t.axes as') (over_axes [] ass ts) h in
    ap (λ x. x ∷ tables_over ass (cells_of ts)) (table-itself as' t d.0 one) ∙ ap (λ l. t ∷ l) (tables-themselves ass ts d.1 (and-right (is_filled t && same_axes t.axes as') (over_axes [] ass ts) h))

-- Cells with the same rows make the same tables.
tables-of-rows : (ass : List Axes) (c c' : Cells) → rows ass c ≡ rows ass c' → tables_over ass c ≡ tables_over ass c'
tables-of-rows [] c c' e = refl
tables-of-rows (as' ∷ ass) [] [] e = refl
tables-of-rows (as' ∷ ass) [] (g ∷ gs) e = cc
tables-of-rows (as' ∷ ass) (f ∷ fs) [] e = cc
tables-of-rows (as' ∷ ass) (f ∷ fs) (g ∷ gs) e =
    let h : row as' f ≡ row as' g = cc in
    let t : rows ass fs ≡ rows ass gs = cc in
    ap (λ r. record { axes = as'; items = r } ∷ tables_over ass fs) h ∙ ap (λ l. table_over as' g ∷ l) (tables-of-rows ass fs gs t)

-- Two lists of tables over the same axes are one where their cells have the same rows.
pub one-tables : (ass : List Axes) (ts ts' : Tables) → AllAxesDiffer ass → over_axes [] ass ts ≡ true → over_axes [] ass ts' ≡ true → rows ass (cells_of ts) ≡ rows ass (cells_of ts') → ts ≡ ts'
one-tables ass ts ts' d h h' e = sym (tables-themselves ass ts d h) ∙ tables-of-rows ass (cells_of ts) (cells_of ts') e ∙ tables-themselves ass ts' d h'
