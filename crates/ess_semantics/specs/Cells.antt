-- Cells as functions: what a table has at each index list. The cells of a slot are those behind its index, so no table
-- is cut up. Tables become cells by looking up, cells become tables row by row.
use Rattle.std.specs.Prelude.{ℕ, zero, suc, Bool, true, false, ◌&&◌, if◌then◌else◌, List, [], ◌∷◌, ◌++◌, map, take, drop, ℤ, pos, Option, Some, None}
use Rattle.std.specs.List.{list_any, list_all}
use Rattle.std.specs.declared.cmp.Ordering.{Ordering}
use Rattle.std.specs.Cmp.Lexicographic.{slice_cmp}
use Rattle.ess_semantics.specs.Lists.{is_some_and, or_default}
use Rattle.ess_semantics.specs.Order.{order_ints, same_int}
use Rattle.ess_semantics.specs.Tables.{Table, Tables, cell_at}

-- The item of one table at each index list, or nothing where there is none.
abbrev pub Grid : Type 0
Grid = List ℤ → Option ℤ

-- The tables of one representation, in the order of their declarations.
abbrev pub Cells : Type 0
Cells = List Grid

-- The members of each axis, rising.
abbrev pub Axes : Type 0
Axes = List (List ℤ)

-- The cells at one member of the first axis.
abbrev pub slot : ℤ → Cells → Cells
slot k c = map (λ f. λ js. f (k ∷ js)) c

-- The cells behind an index list.
abbrev pub behind : List ℤ → Cells → Cells
behind is c = map (λ f. λ js. f (is ++ js)) c

-- Tables as cells.
abbrev pub cells_of : Tables → Cells
cells_of ts = map cell_at ts

-- The cells of tables at an index prefix.
abbrev pub cells_at : Tables → List ℤ → Cells
cells_at ts i = behind i (cells_of ts)

-- ---- parts of cells

-- The first table's cells; none where there is no table.
abbrev pub first_grid : Cells → Grid
first_grid [] = λ js. None
first_grid (f ∷ fs) = f

-- All tables but the first.
abbrev pub other_grids : Cells → Cells
other_grids [] = []
other_grids (f ∷ fs) = fs

-- g of the only table.
abbrev pub only_grid : {A : Type 0} → Cells → (Grid → Option A) → Option A
only_grid (f ∷ []) g = g f
only_grid _ g = None

-- g of the first table and of the others.
abbrev pub first_of_grids : {A : Type 0} → Cells → (Grid → Cells → Option A) → Option A
first_of_grids (f ∷ fs) g = g f fs
first_of_grids [] g = None

-- w tables: behind the index list js, of n indices, they are the cells p js.
abbrev pub joined : ℕ → ℕ → (List ℤ → Cells) → Cells
joined n zero p = []
joined n (suc w) p = (λ is. first_grid (p (take n is)) (drop n is)) ∷ joined n w (λ js. other_grids (p js))

-- ---- over axes

-- Whether an index list has one member of each axis.
abbrev pub is_index : Axes → List ℤ → Bool
is_index [] [] = true
is_index (a ∷ as') (i ∷ js) = list_any (same_int i) a && is_index as' js
is_index _ _ = false

-- Whether each cell over the axes is there and has the property.
abbrev pub every_cell : Axes → (ℤ → Bool) → Grid → Bool
every_cell [] p f = is_some_and (f []) p
every_cell (a ∷ as') p f = list_all (λ k. every_cell as' p (λ js. f (k ∷ js))) a

-- A table that holds 0, or false, everywhere.
abbrev pub zero_grid : Axes → Grid
zero_grid as' js = if is_index as' js then Some (pos 0) else None

-- Tables that hold 0, or false, everywhere: a value out of use.
abbrev pub zero_cells : List Axes → Cells
zero_cells ass = map zero_grid ass

-- Whether all tables hold 0, or false, everywhere.
abbrev pub are_zero : List Axes → Cells → Bool
are_zero [] [] = true
are_zero (as' ∷ ass) (f ∷ fs) = every_cell as' (same_int (pos 0)) f && are_zero ass fs
are_zero _ _ = false

-- The answers of f at the numbers, one list behind the other.
abbrev pub gather : List ℤ → (ℤ → List ℤ) → List ℤ
gather [] f = []
gather (k ∷ ks) f = f k ++ gather ks f

-- The cells over the axes, row by row; 0 stands for one that isn't there.
abbrev pub row : Axes → Grid → List ℤ
row [] f = or_default (f []) (pos 0) ∷ []
row (a ∷ as') f = gather a (λ k. row as' (λ js. f (k ∷ js)))

-- The rows of all tables.
abbrev pub rows : List Axes → Cells → List (List ℤ)
rows (as' ∷ ass) (f ∷ fs) = row as' f ∷ rows ass fs
rows _ _ = []

-- The order of two values' cells: lexicographic in the order of the tables, and row by row.
abbrev pub order_rows : List (List ℤ) → List (List ℤ) → Ordering
order_rows = slice_cmp order_ints

-- The table over the axes that has these cells.
abbrev pub table_over : Axes → Grid → Table
table_over as' f = record { axes = as'; items = row as' f }

-- The tables over these axes that have these cells.
abbrev pub tables_over : List Axes → Cells → Tables
tables_over (as' ∷ ass) (f ∷ fs) = table_over as' f ∷ tables_over ass fs
tables_over _ _ = []
