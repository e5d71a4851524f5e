-- What own tables say at the members of a domain, on rows: cell by cell they are the items.
use Rattle.std.proofs.Common.{◌≡◌, refl, sym, ap, ◌∙◌, subst, if◌then◌else◌, List, [], ◌∷◌, length, ℤ, Option, Some, option_map}
use Rattle.ess_semantics.specs.Lists.{and_then, each_of}
use Rattle.ess_semantics.specs.Values.{Value}
use Rattle.ess_semantics.specs.Domains.{Domain, member_list, lists_of}
use Rattle.ess_semantics.specs.Tables.{Table, volume, item_in, cell_at, truth_of}
use Rattle.ess_semantics.specs.Cells.{Axes}
use Rattle.ess_semantics.specs.Layers.{chosen}
use Rattle.ess_repr_laws.proofs.TablesAndCells.{AxesDiffer}
use Rattle.ess_repr_laws.proofs.SideBySide.{Along, left-under}
use Rattle.ess_repr_laws.proofs.PlacesOfTables.{items-along}
use Rattle.ess_repr_laws.proofs.SlotsUsed.{as_place, slots-are}
use Rattle.ess_repr_laws.proofs.Arguments.{Arguments}
use Rattle.ess_repr_rows_laws.specs.RowLayers.{picked}

-- A table over the axes.
pub record TableOver (as' : Axes) (t : Table) : Type 0 where
  pub over : t.axes ≡ as'
  pub filled : length t.items ≡ volume as'

-- Its cells at the arguments are its items.
pub cells-along : (d : Domain) (as' : Axes) (index : Value → List ℤ) → Arguments d as' index → AxesDiffer as' → (t : Table) → TableOver as' t →
    Along (member_list d) t.items (λ x n. cell_at t (index x) ≡ Some n)
cells-along d as' index args differ t o =
    left-under index (member_list d) t.items (λ p n. cell_at t p ≡ Some n)
    (subst (λ ps. Along ps t.items (λ p n. item_in t.axes t.items p ≡ Some n)) args.places
    (subst (λ as''. Along (lists_of as') t.items (λ p n. item_in as'' t.items p ≡ Some n)) (sym o.over) (items-along as' differ t.items o.filled)))

-- Its cells at the slots are its items.
pub slots-along : (a : List ℤ) → AxesDiffer (a ∷ []) → (t : Table) → TableOver (a ∷ []) t → Along a t.items (λ k n. cell_at t (k ∷ []) ≡ Some n)
slots-along a differ t o =
    left-under as_place a t.items (λ p n. cell_at t p ≡ Some n)
    (subst (λ ps. Along ps t.items (λ p n. item_in t.axes t.items p ≡ Some n)) (slots-are a)
    (subst (λ as''. Along (lists_of (a ∷ [])) t.items (λ p n. item_in as'' t.items p ≡ Some n)) (sym o.over) (items-along (a ∷ []) differ t.items o.filled)))

-- The chosen items are the picked ones.
pub chosen-picked : {A : Type 0} (xs : List A) (ns : List ℤ) (f : A → Option ℤ) → Along xs ns (λ x n. f x ≡ Some n) → chosen xs f ≡ picked ns xs
chosen-picked [] [] f h = refl
chosen-picked [] (n ∷ ns) f h = absurd h
chosen-picked (x ∷ xs) [] f h = absurd h
chosen-picked (x ∷ xs) (n ∷ ns) f h =
    ap (λ o. and_then (and_then o truth_of) (λ b. option_map (λ ys. if b then x ∷ ys else ys) (chosen xs f))) h.0
    ∙ ap (λ o. and_then (truth_of n) (λ b. option_map (λ ys. if b then x ∷ ys else ys) o)) (chosen-picked xs ns f h.1)

-- What each cell gives is what each item gives.
pub each-item : {A B : Type 0} (xs : List A) (ns : List ℤ) (f : A → Option ℤ) (g : ℤ → Option B) → Along xs ns (λ x n. f x ≡ Some n) →
    each_of xs (λ x. and_then (f x) g) ≡ each_of ns g
each-item [] [] f g h = refl
each-item [] (n ∷ ns) f g h = absurd h
each-item (x ∷ xs) [] f g h = absurd h
each-item (x ∷ xs) (n ∷ ns) f g h =
    ap (λ o. and_then (and_then o g) (λ y. option_map (λ ys. y ∷ ys) (each_of xs (λ x. and_then (f x) g)))) h.0
    ∙ ap (λ o. and_then (g n) (λ y. option_map (λ ys. y ∷ ys) o)) (each-item xs ns f g h.1)

-- Each cell is there.
pub each-there : {A : Type 0} (xs : List A) (ns : List ℤ) (f : A → Option ℤ) → Along xs ns (λ x n. f x ≡ Some n) → each_of xs f ≡ Some ns
each-there [] [] f h = refl
each-there [] (n ∷ ns) f h = absurd h
each-there (x ∷ xs) [] f h = absurd h
each-there (x ∷ xs) (n ∷ ns) f h =
    ap (λ o. and_then o (λ y. option_map (λ ys. y ∷ ys) (each_of xs f))) h.0 ∙ ap (option_map (λ ys. n ∷ ys)) (each-there xs ns f h.1)
