-- Tables of cells in their domains have their items there.
use Rattle.std.proofs.Common.{◌≡◌, refl, ap, Bool, true, ◌&&◌, List, [], ◌∷◌, ◌++◌, map, ℤ, pos, Option, Some, None}
use Rattle.std.specs.List.{list_all}
use Rattle.ess_semantics.specs.Lists.{is_some_and, or_default}
use Rattle.ess_semantics.specs.Tables.{is_cell}
use Rattle.ess_semantics.specs.Cells.{Grid, Cells, Axes, every_cell, gather, row, tables_over}
use Rattle.ess_semantics.specs.Declarations.{Declaration}
use Rattle.ess_repr_laws.specs.CanonicalTables.{TablesFit}
use Rattle.ess_semantics.proofs.Tests.{and-left, and-right, and-both}
use Rattle.ess_repr_laws.proofs.FittingCells.{cells_fit}

-- ---- items of tables

-- The items of a table have the property that each cell has.
pub row-fits : (as' : Axes) (p : ℤ → Bool) (f : Grid) → every_cell as' p f ≡ true → list_all p (row as' f) ≡ true
row-fits [] p f h = go (f []) h
  where
    go : (o : Option ℤ) → is_some_and o p ≡ true → p (or_default o (pos 0)) && true ≡ true
    go None h = cc
    go (Some n) h = ap (λ b. b && true) h
row-fits (a ∷ as') p f h = go a (λ k e. row-fits as' p (λ js. f (k ∷ js)) e) h
  where
    both : (xs ys : List ℤ) → list_all p xs ≡ true → list_all p ys ≡ true → list_all p (xs ++ ys) ≡ true
    both [] ys a b = b
    both (x ∷ xs) ys a b = and-both (p x) (list_all p (xs ++ ys)) (and-left (p x) (list_all p xs) a) (both xs ys (and-right (p x) (list_all p xs) a) b)

    go : (ks : List ℤ) → ((k : ℤ) → every_cell as' p (λ js. f (k ∷ js)) ≡ true → list_all p (row as' (λ js. f (k ∷ js))) ≡ true) → list_all (λ k. every_cell as' p (λ js. f (k ∷ js))) ks ≡ true → list_all p (gather ks (λ k. row as' (λ js. f (k ∷ js)))) ≡ true
    go [] ih h = refl
    go (k ∷ ks) ih h =
        both (row as' (λ js. f (k ∷ js))) (gather ks (λ k. row as' (λ js. f (k ∷ js)))) (ih k (and-left (every_cell as' p (λ js. f (k ∷ js))) (list_all (λ k. every_cell as' p (λ js. f (k ∷ js))) ks) h))
        (go ks ih (and-right (every_cell as' p (λ js. f (k ∷ js))) (list_all (λ k. every_cell as' p (λ js. f (k ∷ js))) ks) h))

-- Cells in declared domains make tables that fit.
pub tables-fit : (ds : List Declaration) (c : Cells) → cells_fit ds c ≡ true → TablesFit ds (tables_over (map (λ t. t.axes) ds) c)
tables-fit [] [] h = tt
tables-fit [] (f ∷ fs) h = cc
tables-fit (d ∷ ds) [] h = cc
tables-fit (d ∷ ds) (f ∷ fs) h = (
  refl,
  row-fits d.axes (is_cell d.cell) f (and-left (every_cell d.axes (is_cell d.cell) f) (cells_fit ds fs) h),
  tables-fit ds fs (and-right (every_cell d.axes (is_cell d.cell) f) (cells_fit ds fs) h),
)
