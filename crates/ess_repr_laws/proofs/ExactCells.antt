-- Cells that are there exactly at the index lists of their axes: they are the cells of the tables that they make.
use Rattle.std.proofs.Common.{◌≡◌, refl, sym, ap, ◌∙◌, ℕ, zero, suc, ◌+◌, ◌*◌, Bool, true, false, ◌&&◌, ◌||◌, if◌then◌else◌, List, [], ◌∷◌, ◌++◌, take, drop, length, ℤ, pos, Option, Some, None, is_some, suc-mul, arith}
use Rattle.std.proofs.Math.Path.{fun_ext}
use Rattle.std.proofs.lemmas.Bool.{eq-eqb}
use Rattle.std.specs.List.{list_any}
use Rattle.ess_semantics.specs.Lists.{and_then, or_default}
use Rattle.ess_semantics.specs.Order.{same_int, same_ints}
use Rattle.ess_semantics.specs.Tables.{volume, chunk, item_in, cell_at, same_axes, is_filled}
use Rattle.ess_semantics.specs.Cells.{Grid, Cells, Axes, cells_of, row, rows, is_index, table_over, tables_over}
use Rattle.ess_semantics.specs.Tidy.{over_axes}
use Rattle.ess_semantics.proofs.Tests.{and-both, both-ways}
use Rattle.ess_semantics.proofs.Orders.{same_int-equal, same_int-itself, same_ints-itself}
use Rattle.ess_repr_laws.proofs.TablesAndCells.{row-length, cell-of-row}

-- The cell is there exactly where the index list has one member of each axis.
abbrev pub Exact : Axes → Grid → Type 0
Exact as' f = (js : List ℤ) → is_some (f js) ≡ is_index as' js

-- The same of several tables.
abbrev pub AllExact : List Axes → Cells → Type 0
AllExact [] [] = Unit {0}
AllExact (as' ∷ ass) (f ∷ fs) = Exact as' f × AllExact ass fs
AllExact _ _ = ⊥

-- They are as many as lists of axes.
pub exact-length : (ass : List Axes) (c : Cells) → AllExact ass c → length c ≡ length ass
exact-length [] [] h = refl
exact-length (as' ∷ ass) (f ∷ fs) h = ap suc (exact-length ass fs h.1)
exact-length [] (f ∷ fs) h = absurd h
exact-length (as' ∷ ass) [] h = absurd h

-- Two lists of tables.
pub exact-append : (ass bss : List Axes) (c c' : Cells) → AllExact ass c → AllExact bss c' → AllExact (ass ++ bss) (c ++ c')
exact-append [] bss [] c' h h' = h'
exact-append (as' ∷ ass) bss (f ∷ fs) c' h h' = (h.0, exact-append ass bss fs c' h.1 h')
exact-append [] bss (f ∷ fs) c' h h' = absurd h
exact-append (as' ∷ ass) bss [] c' h h' = absurd h

-- ---- options

-- Nothing is there.
pub none-of : {A : Type 0} (o : Option A) → is_some o ≡ false → o ≡ None
none-of None e = refl
none-of (Some x) e = cc

some-of : (o : Option ℤ) → is_some o ≡ true → Some (or_default o (pos 0)) ≡ o
some-of None e = cc
some-of (Some x) e = refl

-- ---- parts of lists

take-length : (n m : ℕ) (xs : List ℤ) → length xs ≡ n + m → length (take n xs) ≡ n
take-length zero m xs e = refl
take-length (suc n) m [] e = let z : 0 ≡ suc n + m = e in absurd (omega arith)
take-length (suc n) m (x ∷ xs) e = let z : suc (length xs) ≡ suc n + m = e in let f : length xs ≡ n + m = omega arith in ap suc (take-length n m xs f)

drop-length : (n m : ℕ) (xs : List ℤ) → length xs ≡ n + m → length (drop n xs) ≡ m
drop-length zero m xs e = omega arith
drop-length (suc n) m [] e = let z : 0 ≡ suc n + m = e in absurd (omega arith)
drop-length (suc n) m (x ∷ xs) e = let z : suc (length xs) ≡ suc n + m = e in let f : length xs ≡ n + m = omega arith in drop-length n m xs f

more : (k v : ℕ) → suc k * v ≡ v + k * v
more k v = let x = suc-mul k v in omega arith

-- Numbers are equal either way round.
pub same_int-turned : (j k : ℤ) → same_int j k ≡ same_int k j
same_int-turned j k = both-ways (same_int j k) (same_int k j) (λ e. go j k (same_int-equal j k e)) (λ e. go k j (same_int-equal k j e))
  where
    go : (a b : ℤ) → a ≡ b → same_int b a ≡ true
    go a b e = ap (λ z. same_int z a) (sym e) ∙ same_int-itself a

-- ---- the items of a filled table

-- The items of a filled table are exactly the cells of its axes.
pub exact-items : (as' : Axes) (xs : List ℤ) → length xs ≡ volume as' → Exact as' (item_in as' xs)
exact-items [] [] e js = cc
exact-items [] (x ∷ []) e [] = refl
exact-items [] (x ∷ []) e (j ∷ js) = refl
exact-items [] (x ∷ y ∷ xs) e js = cc
exact-items (a ∷ as') xs e [] = refl
exact-items (a ∷ as') xs e (j ∷ js) = go (λ c h. exact-items as' c h js) a xs e
  where
    v : ℕ
    v = volume as'

    go : ((c : List ℤ) → length c ≡ volume as' → is_some (item_in as' c js) ≡ is_index as' js) → (ks : List ℤ) (xs : List ℤ) → length xs ≡ length ks * volume as' →
        is_some (and_then (chunk ks (volume as') xs j) (λ c. item_in as' c js)) ≡ list_any (same_int j) ks && is_index as' js
    go ih [] xs e = refl
    go ih (k ∷ ks) xs e = step (same_int k j) refl (go ih ks (drop (volume as') xs) (drop-length (volume as') (length ks * volume as') xs (e ∙ more (length ks) (volume as'))))
      where
        step : (b : Bool) → same_int k j ≡ b → is_some (and_then (chunk ks (volume as') (drop (volume as') xs) j) (λ c. item_in as' c js)) ≡ list_any (same_int j) ks && is_index as' js →
            is_some (and_then (if b then Some (take (volume as') xs) else chunk ks (volume as') (drop (volume as') xs) j) (λ c. item_in as' c js)) ≡ (same_int j k || list_any (same_int j) ks) && is_index as' js
        step true q r = ih (take (volume as') xs) (take-length (volume as') (length ks * volume as') xs (e ∙ more (length ks) (volume as')))
            ∙ ap (λ b. (b || list_any (same_int j) ks) && is_index as' js) (sym (same_int-turned j k ∙ q))
        step false q r = r ∙ ap (λ b. (b || list_any (same_int j) ks) && is_index as' js) (sym (same_int-turned j k ∙ q))

-- ---- tables of exact cells

-- The cells of the table that exact cells make are these cells.
pub exact-table : (as' : Axes) (f : Grid) → Exact as' f → cell_at (table_over as' f) ≡ f
exact-table as' f h = fun_ext (λ js. go js (is_index as' js) refl)
  where
    go : (js : List ℤ) (b : Bool) → is_index as' js ≡ b → cell_at (table_over as' f) js ≡ f js
    go js true e = cell-of-row as' f js e ∙ some-of (f js) (h js ∙ e)
    go js false e = none-of (cell_at (table_over as' f) js) (exact-items as' (row as' f) (row-length as' f) js ∙ e) ∙ sym (none-of (f js) (h js ∙ e))

-- The cells of the tables that exact cells make are these cells.
pub exact-tables : (ass : List Axes) (c : Cells) → AllExact ass c → cells_of (tables_over ass c) ≡ c
exact-tables [] [] h = refl
exact-tables [] (f ∷ fs) h = absurd h
exact-tables (as' ∷ ass) [] h = absurd h
exact-tables (as' ∷ ass) (f ∷ fs) h = ap (λ g. g ∷ cells_of (tables_over ass fs)) (exact-table as' f h.0) ∙ ap (λ l. f ∷ l) (exact-tables ass fs h.1)

same_axes-itself : (as' : Axes) → same_axes as' as' ≡ true
same_axes-itself [] = refl
same_axes-itself (a ∷ as') = and-both (same_ints a a) (same_axes as' as') (same_ints-itself a) (same_axes-itself as')

-- These tables are over the axes.
pub over-axes : (ass : List Axes) (c : Cells) → length c ≡ length ass → over_axes [] ass (tables_over ass c) ≡ true
over-axes [] [] e = refl
over-axes [] (f ∷ fs) e = cc
over-axes (as' ∷ ass) [] e = cc
over-axes (as' ∷ ass) (f ∷ fs) e =
    let e' : length fs ≡ length ass = cc in
    and-both (is_filled (table_over as' f) && same_axes as' as') (over_axes [] ass (tables_over ass fs))
    (and-both (is_filled (table_over as' f)) (same_axes as' as') (eq-eqb (length (row as' f)) (volume as') (row-length as' f)) (same_axes-itself as'))
    (over-axes ass fs e')

-- Exact cells with the same rows are one.
pub exact-rows : (ass : List Axes) (c c' : Cells) → AllExact ass c → AllExact ass c' → rows ass c ≡ rows ass c' → c ≡ c'
exact-rows ass c c' h h' e = sym (exact-tables ass c h) ∙ ap cells_of (tables ass c c' e) ∙ exact-tables ass c' h'
  where
    tables : (ass : List Axes) (c c' : Cells) → rows ass c ≡ rows ass c' → tables_over ass c ≡ tables_over ass c'
    tables [] c c' e = refl
    tables (as' ∷ ass) [] [] e = refl
    tables (as' ∷ ass) [] (g ∷ gs) e = cc
    tables (as' ∷ ass) (f ∷ fs) [] e = cc
    tables (as' ∷ ass) (f ∷ fs) (g ∷ gs) e =
        let h : row as' f ≡ row as' g = cc in
        let t : rows ass fs ≡ rows ass gs = cc in
        ap (λ r. record { axes = as'; items = r } ∷ tables_over ass fs) h ∙ ap (λ l. table_over as' g ∷ l) (tables ass fs gs t)
