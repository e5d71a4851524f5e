-- Cells behind an index list: one index after the other, at a prefix of tables, and as slices of tables.
use Rattle.std.proofs.Common.{◌≡◌, refl, sym, ap, ◌∙◌, ℕ, zero, suc, List, [], ◌∷◌, ◌++◌, map, take, drop, length, ℤ, Option, Some, None, option_map}
use Rattle.std.proofs.Math.Path.{fun_ext}
use Rattle.ess_semantics.specs.Lists.{and_then, or_default, each_of}
use Rattle.ess_semantics.specs.Trees.{Repr}
use Rattle.ess_semantics.specs.Domains.{Domain}
use Rattle.ess_semantics.specs.Tables.{Table, Tables, item_in, cell_at, chunk, volume}
use Rattle.ess_semantics.specs.Cells.{Cells, slot, behind, cells_of, cells_at, first_grid, other_grids, joined}
use Rattle.ess_semantics.specs.Representations.{value_of_cells, value_of_tables}
use Rattle.ess_semantics.specs.OneLayer.{slice_in, no_cells, slice, slices}

-- ---- lists of grids

-- Behind no index all cells stand.
pub behind-none : (c : Cells) → behind [] c ≡ c
behind-none [] = refl
behind-none (f ∷ fs) = ap (λ gs. f ∷ gs) (behind-none fs)

-- behind one index list and then another
pub behind-append : (is js : List ℤ) (c : Cells) → behind (is ++ js) c ≡ behind js (behind is c)
behind-append is js [] = refl
behind-append is js (f ∷ fs) = ap (λ g. g ∷ behind (is ++ js) fs) (fun_ext (λ ks. ap f (go is ks))) ∙ ap (λ gs. (λ ks. f (is ++ (js ++ ks))) ∷ gs) (behind-append is js fs)
  where
    go : (is ks : List ℤ) → (is ++ js) ++ ks ≡ is ++ (js ++ ks)
    go [] ks = refl
    go (i ∷ is) ks = ap (λ l. i ∷ l) (go is ks)

-- The first tables behind an index list.
pub behind-take : (is : List ℤ) (n : ℕ) (c : Cells) → take n (behind is c) ≡ behind is (take n c)
behind-take is zero c = refl
behind-take is (suc n) [] = refl
behind-take is (suc n) (f ∷ fs) = ap (λ gs. (λ js. f (is ++ js)) ∷ gs) (behind-take is n fs)

-- The tables after them.
pub behind-drop : (is : List ℤ) (n : ℕ) (c : Cells) → drop n (behind is c) ≡ behind is (drop n c)
behind-drop is zero c = refl
behind-drop is (suc n) [] = refl
behind-drop is (suc n) (f ∷ fs) = behind-drop is n fs

-- They are as many.
pub behind-length : (is : List ℤ) (c : Cells) → length (behind is c) ≡ length c
behind-length is [] = refl
behind-length is (f ∷ fs) = ap suc (behind-length is fs)

-- ---- tables at an index prefix

-- The cells at two prefixes, one behind the other.
pub cells_at-append : (ts : Tables) (is js : List ℤ) → cells_at ts (is ++ js) ≡ behind js (cells_at ts is)
cells_at-append ts is js = behind-append is js (cells_of ts)

-- The view at one more index is the slot there.
pub value_of_tables-slot : (r : Repr) (d : Domain) (ts : Tables) (is : List ℤ) (k : ℤ) → value_of_tables r d ts (is ++ (k ∷ [])) ≡ value_of_cells r d (slot k (cells_at ts is))
value_of_tables-slot r d ts is k = ap (value_of_cells r d) (cells_at-append ts is (k ∷ []))

-- ---- slices of tables

cell_at-no_cells : (is : List ℤ) → cell_at no_cells is ≡ None
cell_at-no_cells [] = refl
cell_at-no_cells (i ∷ is) = refl

cell_at-slice_in : (as' : List (List ℤ)) (xs js is : List ℤ) → cell_at (or_default (slice_in as' xs js) no_cells) is ≡ item_in as' xs (js ++ is)
cell_at-slice_in [] xs [] is = refl
cell_at-slice_in (a ∷ as') xs [] is = refl
cell_at-slice_in [] xs (j ∷ js) is = cell_at-no_cells is
cell_at-slice_in (a ∷ as') xs (j ∷ js) is = go (chunk a (volume as') xs j) (λ c. cell_at-slice_in as' c js is)
  where
    go : (o : Option (List ℤ)) → ((c : List ℤ) → cell_at (or_default (slice_in as' c js) no_cells) is ≡ item_in as' c (js ++ is)) →
        cell_at (or_default (and_then o (λ c. slice_in as' c js)) no_cells) is ≡ and_then o (λ c. item_in as' c (js ++ is))
    go None h = cell_at-no_cells is
    go (Some c) h = h c

-- The cells of a slice are those behind its index list.
pub cell_at-slice : (js : List ℤ) (t : Table) (is : List ℤ) → cell_at (slice js t) is ≡ cell_at t (js ++ is)
cell_at-slice js t is = cell_at-slice_in t.axes t.items js is

-- The cells of slices are those behind the index list.
pub cells_of-slices : (ts : Tables) (js : List ℤ) → cells_of (slices ts js) ≡ behind js (cells_of ts)
cells_of-slices [] js = refl
cells_of-slices (t ∷ ts) js = ap (λ f. f ∷ cells_of (slices ts js)) (fun_ext (cell_at-slice js t)) ∙ ap (λ fs. (λ is. cell_at t (js ++ is)) ∷ fs) (cells_of-slices ts js)

-- What tables stand for at an index list is what their slices there stand for.
pub value_of_tables-slices : (r : Repr) (d : Domain) (ts : Tables) (js : List ℤ) → value_of_tables r d ts js ≡ value_of_tables r d (slices ts js) []
value_of_tables-slices r d ts js = ap (value_of_cells r d) (sym (cells_of-slices ts js) ∙ sym (behind-none (cells_of (slices ts js))))

-- The values of a child at the places in use are those of the tables of the slots in use.
pub values-slices : (r : Repr) (d : Domain) (ts : Tables) (js : List (List ℤ)) →
    each_of js (λ j. value_of_cells r d (behind j (cells_of ts))) ≡ each_of (map (slices ts) js) (λ us. value_of_cells r d (cells_of us))
values-slices r d ts [] = refl
values-slices r d ts (j ∷ js) =
    ap (λ c. and_then (value_of_cells r d c) (λ v. option_map (λ vs. v ∷ vs) (each_of js (λ j. value_of_cells r d (behind j (cells_of ts)))))) (sym (cells_of-slices ts j))
    ∙ ap (λ o. and_then (value_of_cells r d (cells_of (slices ts j))) (λ v. option_map (λ vs. v ∷ vs) o)) (values-slices r d ts js)

-- ---- joined tables

-- So many tables are joined.
pub joined-length : (n w : ℕ) (p : List ℤ → Cells) → length (joined n w p) ≡ w
joined-length n zero p = refl
joined-length n (suc w) p = ap suc (joined-length n w (λ js. other_grids (p js)))

take-append : (js is : List ℤ) → take (length js) (js ++ is) ≡ js
take-append [] is = refl
take-append (j ∷ js) is = ap (λ l. j ∷ l) (take-append js is)

drop-append : (js is : List ℤ) → drop (length js) (js ++ is) ≡ is
drop-append [] is = refl
drop-append (j ∷ js) is = drop-append js is

-- Behind an index list joined tables are those that were joined there.
pub joined-behind : (n w : ℕ) (p : List ℤ → Cells) (js : List ℤ) → length js ≡ n → length (p js) ≡ w → behind js (joined n w p) ≡ p js
joined-behind n zero p js e h = none (p js) h
  where
    none : (c : Cells) → length c ≡ zero → [] ≡ c
    none [] h = refl
    none (f ∷ fs) h = cc
joined-behind n (suc w) p js e h =
    ap (λ f. f ∷ behind js (joined n w (λ ks. other_grids (p ks)))) (fun_ext (λ is. ap (λ m. first_grid (p (take m (js ++ is))) (drop m (js ++ is))) (sym e) ∙ ap (λ ks. first_grid (p ks) (drop (length js) (js ++ is))) (take-append js is) ∙ ap (first_grid (p js)) (drop-append js is)))
    ∙ ap (λ fs. first_grid (p js) ∷ fs) (joined-behind n w (λ ks. other_grids (p ks)) js e (rest (p js) h))
    ∙ whole (p js) h
  where
    rest : (c : Cells) → length c ≡ suc w → length (other_grids c) ≡ w
    rest [] h = cc
    rest (f ∷ fs) h = cc

    whole : (c : Cells) → length c ≡ suc w → first_grid c ∷ other_grids c ≡ c
    whole [] h = cc
    whole (f ∷ fs) h = refl
