-- Tables over the declared axes with items in the declared domains have their cells in these.
use Rattle.std.proofs.Common.{◌≡◌, refl, ap, ◌∙◌, true, ◌&&◌, List, [], ◌∷◌, map, length, ℤ, Bool, Some}
use Rattle.std.proofs.lemmas.Bool.{eqb-true}
use Rattle.std.specs.List.{list_all}
use Rattle.ess_semantics.specs.Lists.{is_some_and}
use Rattle.ess_semantics.specs.Domains.{lists_of}
use Rattle.ess_semantics.specs.Tables.{Tables, volume, item_in, cell_at, is_cell, same_axes, is_filled}
use Rattle.ess_semantics.specs.Cells.{Axes, cells_of, every_cell}
use Rattle.ess_semantics.specs.Declarations.{Declaration}
use Rattle.ess_semantics.specs.Tidy.{over_axes}
use Rattle.ess_repr_laws.specs.CanonicalTables.{TablesFit}
use Rattle.ess_semantics.proofs.Tests.{and-left, and-right, and-both}
use Rattle.ess_repr_laws.proofs.CanonicalPlaces.{all-of-list, places-index}
use Rattle.ess_repr_laws.proofs.TablesAndCells.{AxesDiffer, AllAxesDiffer}
use Rattle.ess_repr_laws.proofs.SideBySide.{Along, along-all}
use Rattle.ess_repr_laws.proofs.PlacesOfTables.{items-along}
use Rattle.ess_repr_laws.proofs.ArgumentTables.{index-cell}
use Rattle.ess_repr_laws.proofs.FittingCells.{cells_fit}

items-within : (as' : Axes) (p : ℤ → Bool) (xs : List ℤ) → AxesDiffer as' → length xs ≡ volume as' → list_all p xs ≡ true → every_cell as' p (item_in as' xs) ≡ true
items-within as' p xs d e h =
    index-cell as' p (item_in as' xs)
    (places-index as' (λ js. is_some_and (item_in as' xs js) p ≡ true)
    (all-of-list (lists_of as') (λ js. is_some_and (item_in as' xs js) p) (along-all (λ js. is_some_and (item_in as' xs js) p) (lists_of as') xs (go (lists_of as') xs h (items-along as' d xs e)))))
  where
    go : (ps : List (List ℤ)) (ys : List ℤ) → list_all p ys ≡ true → Along ps ys (λ q y. item_in as' xs q ≡ Some y) → Along ps ys (λ q y. is_some_and (item_in as' xs q) p ≡ true)
    go [] [] h a = tt
    go (q ∷ ps) (y ∷ ys) h a = (ap (λ o. is_some_and o p) a.0 ∙ and-left (p y) (list_all p ys) h, go ps ys (and-right (p y) (list_all p ys) h) a.1)
    go [] (y ∷ ys) h a = absurd a
    go (q ∷ ps) [] h a = absurd a

-- Filled tables over the declared axes, with items in the declared domains, have their cells in these.
pub tables-within : (ds : List Declaration) (ts : Tables) → AllAxesDiffer (map (λ t. t.axes) ds) → over_axes [] (map (λ t. t.axes) ds) ts ≡ true → TablesFit ds ts → cells_fit ds (cells_of ts) ≡ true
tables-within [] [] a o f = refl
tables-within [] (t ∷ ts) a o f = absurd f
tables-within (d ∷ ds) [] a o f = absurd f
tables-within (d ∷ ds) (t ∷ ts) a o f =
    let one = and-left (is_filled t && same_axes t.axes d.axes) (over_axes [] (map (λ t. t.axes) ds) ts) o in
    let full = eqb-true (length t.items) (volume t.axes) (and-left (is_filled t) (same_axes t.axes d.axes) one) in
    and-both (every_cell d.axes (is_cell d.cell) (cell_at t)) (cells_fit ds (cells_of ts))
    (ap (λ x. every_cell d.axes (is_cell d.cell) (item_in x t.items)) f.0 ∙ items-within d.axes (is_cell d.cell) t.items a.0 (full ∙ ap volume f.0) f.1)
    (tables-within ds ts a.1 (and-right (is_filled t && same_axes t.axes d.axes) (over_axes [] (map (λ t. t.axes) ds) ts) o) f.2)
