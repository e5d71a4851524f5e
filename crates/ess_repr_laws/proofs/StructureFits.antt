-- Cells that are there exactly over the declared axes, and lie in the declared domains: at each place, and side by side.
use Rattle.std.proofs.Common.{◌≡◌, refl, sym, ap, ◌∙◌, subst, true, ◌&&◌, ◌||◌, List, [], ◌∷◌, ◌++◌, map, take, drop, length, ℤ}
use Rattle.std.specs.List.{list_any}
use Rattle.ess_semantics.specs.Order.{same_int}
use Rattle.ess_semantics.specs.Domains.{add_heads, lists_of}
use Rattle.ess_semantics.specs.Tables.{Tables, is_cell}
use Rattle.ess_semantics.specs.Cells.{Grid, Cells, Axes, behind, cells_of, every_cell, is_index}
use Rattle.ess_semantics.specs.Declarations.{Declaration, under}
use Rattle.ess_semantics.proofs.Orders.{same_int-itself}
use Rattle.ess_semantics.proofs.Tests.{and-left, and-right, and-both, or-yes}
use Rattle.ess_repr_laws.proofs.Behind.{behind-append}
use Rattle.ess_repr_laws.proofs.CanonicalPlaces.{AllOf, all-of-both}
use Rattle.ess_repr_laws.proofs.ExactCells.{Exact, AllExact}
use Rattle.ess_repr_laws.proofs.FittingCells.{cells_fit, under-every}
use Rattle.ess_repr_laws.proofs.RowsOfCells.{EachOf, each-map, axes_in}

-- Cells that are there exactly over the declared axes and lie in the declared domains.
abbrev pub Fit : List Declaration → Cells → Type 0
Fit ds c = (cells_fit ds c ≡ true) × AllExact (axes_in ds) c

-- ---- at each place

-- what holds of tests at all places
all-same : (ps : List (List ℤ)) → AllOf ps (λ p. true ≡ true)
all-same [] = tt
all-same (p ∷ ps) = (refl, all-same ps)

under-fit : (bs : Axes) (ds : List Declaration) (c : Cells) → cells_fit (under bs ds ++ []) c ≡ true → AllOf (lists_of bs) (λ p. cells_fit ds (behind p c) ≡ true)
under-fit bs [] [] h = all-same (lists_of bs)
under-fit bs [] (f ∷ fs) h = cc
under-fit bs (d ∷ ds) [] h = cc
under-fit bs (d ∷ ds) (f ∷ fs) h =
    all-of-both (lists_of bs) (λ p. every_cell d.axes (is_cell d.cell) (λ js. f (p ++ js)) ≡ true) (λ p. cells_fit ds (behind p fs) ≡ true)
    (λ p. cells_fit (d ∷ ds) (behind p (f ∷ fs)) ≡ true)
    (λ p x y. and-both (every_cell d.axes (is_cell d.cell) (λ js. f (p ++ js))) (cells_fit ds (behind p fs)) x y)
    (under-every bs d.axes (is_cell d.cell) f (and-left (every_cell (bs ++ d.axes) (is_cell d.cell) f) (cells_fit (under bs ds ++ []) fs) h))
    (under-fit bs ds fs (and-right (every_cell (bs ++ d.axes) (is_cell d.cell) f) (cells_fit (under bs ds ++ []) fs) h))

each-itself : (b : List ℤ) → EachOf b (λ k. list_any (same_int k) b ≡ true)
each-itself [] = tt
each-itself (a ∷ b) = (
  ap (λ x. x || list_any (same_int a) b) (same_int-itself a),
  each-map b (λ k. list_any (same_int k) b ≡ true) (λ k. list_any (same_int k) (a ∷ b) ≡ true) (λ k h. ap (λ x. same_int k a || x) h ∙ or-yes (same_int k a)) (each-itself b),
)

-- Behind a place an index list is one of the other axes.
pub index-behind : (bs as' : Axes) → AllOf (lists_of bs) (λ p. (js : List ℤ) → is_index (bs ++ as') (p ++ js) ≡ is_index as' js)
index-behind [] as' = (λ js. refl, tt)
index-behind (b ∷ bs) as' = go b (each-itself b) (index-behind bs as')
  where
    front : (k : ℤ) → list_any (same_int k) b ≡ true → (ps ms : List (List ℤ)) → AllOf ps (λ p. (js : List ℤ) → is_index (bs ++ as') (p ++ js) ≡ is_index as' js) →
        AllOf ms (λ p. (js : List ℤ) → is_index (b ∷ bs ++ as') (p ++ js) ≡ is_index as' js) → AllOf (map (λ l. k ∷ l) ps ++ ms) (λ p. (js : List ℤ) → is_index (b ∷ bs ++ as') (p ++ js) ≡ is_index as' js)
    front k h [] ms x y = y
    front k h (p ∷ ps) ms x y = (λ js. ap (λ z. z && is_index (bs ++ as') (p ++ js)) h ∙ x.0 js, front k h ps ms x.1 y)

    go : (ks : List ℤ) → EachOf ks (λ k. list_any (same_int k) b ≡ true) → AllOf (lists_of bs) (λ p. (js : List ℤ) → is_index (bs ++ as') (p ++ js) ≡ is_index as' js) →
        AllOf (add_heads ks (lists_of bs)) (λ p. (js : List ℤ) → is_index (b ∷ bs ++ as') (p ++ js) ≡ is_index as' js)
    go [] h ih = tt
    go (k ∷ ks) h ih = front k h.0 (lists_of bs) (add_heads ks (lists_of bs)) ih (go ks h.1 ih)

under-exact : (bs : Axes) (ds : List Declaration) (c : Cells) → AllExact (axes_in (under bs ds ++ [])) c → AllOf (lists_of bs) (λ p. AllExact (axes_in ds) (behind p c))
under-exact bs [] [] h = units (lists_of bs)
  where
    units : (ps : List (List ℤ)) → AllOf ps (λ p. Unit {0})
    units [] = tt
    units (p ∷ ps) = (tt, units ps)
under-exact bs [] (f ∷ fs) h = absurd h
under-exact bs (d ∷ ds) [] h = absurd h
under-exact bs (d ∷ ds) (f ∷ fs) h =
    all-of-both (lists_of bs) (λ p. (js : List ℤ) → is_index (bs ++ d.axes) (p ++ js) ≡ is_index d.axes js) (λ p. AllExact (axes_in ds) (behind p fs)) (λ p. AllExact (axes_in (d ∷ ds)) (behind p (f ∷ fs)))
    (λ p x y. (λ js. h.0 (p ++ js) ∙ x js, y)) (index-behind bs d.axes) (under-exact bs ds fs h.1)

-- Of tables under further axes that fit, those at each place do.
pub places-fit : (bs : Axes) (ds : List Declaration) (ts : Tables) (i : List ℤ) → Fit (under bs ds ++ []) (behind i (cells_of ts)) → AllOf (lists_of bs) (λ p. Fit ds (behind (i ++ p) (cells_of ts)))
places-fit bs ds ts i h =
    all-of-both (lists_of bs) (λ p. cells_fit ds (behind p (behind i (cells_of ts))) ≡ true) (λ p. AllExact (axes_in ds) (behind p (behind i (cells_of ts)))) (λ p. Fit ds (behind (i ++ p) (cells_of ts)))
    (λ p x y. subst (Fit ds) (sym (behind-append i p (cells_of ts))) (x, y)) (under-fit bs ds (behind i (cells_of ts)) h.0) (under-exact bs ds (behind i (cells_of ts)) h.1)

-- ---- side by side

cells-split : (ds es : List Declaration) (c : Cells) → cells_fit (ds ++ es) c ≡ true → (cells_fit ds (take (length ds) c) ≡ true) × (cells_fit es (drop (length ds) c) ≡ true)
cells-split [] es c h = (refl, h)
cells-split (d ∷ ds) es [] h = cc
cells-split (d ∷ ds) es (f ∷ fs) h =
    let x = cells-split ds es fs (and-right (every_cell d.axes (is_cell d.cell) f) (cells_fit (ds ++ es) fs) h) in
    (and-both (every_cell d.axes (is_cell d.cell) f) (cells_fit ds (take (length ds) fs)) (and-left (every_cell d.axes (is_cell d.cell) f) (cells_fit (ds ++ es) fs) h) x.0, x.1)

exact-split : (ds es : List Declaration) (c : Cells) → AllExact (axes_in (ds ++ es)) c → AllExact (axes_in ds) (take (length ds) c) × AllExact (axes_in es) (drop (length ds) c)
exact-split [] es c h = (tt, h)
exact-split (d ∷ ds) es [] h = absurd h
exact-split (d ∷ ds) es (f ∷ fs) h = let x = exact-split ds es fs h.1 in ((h.0, x.0), x.1)

-- Of two lists of tables that fit, each does.
pub fit-split : (ds es : List Declaration) (c : Cells) → Fit (ds ++ es) c → Fit ds (take (length ds) c) × Fit es (drop (length ds) c)
fit-split ds es c h = let x = cells-split ds es c h.0 in let y = exact-split ds es c h.1 in ((x.0, y.0), (x.1, y.1))

-- A first table that fits lies in its domain and is there exactly over its axes; the others fit.
pub record FirstFit (d : Declaration) (ds : List Declaration) (f : Grid) (fs : Cells) : Type 0 where
  pub inside : every_cell d.axes (is_cell d.cell) f ≡ true
  pub exact : Exact d.axes f
  pub others : Fit ds fs

-- So it is.
pub first-fit : (d : Declaration) (ds : List Declaration) (f : Grid) (fs : Cells) → Fit (d ∷ ds) (f ∷ fs) → FirstFit d ds f fs
first-fit d ds f fs h = record {
  inside = and-left (every_cell d.axes (is_cell d.cell) f) (cells_fit ds fs) h.0;
  exact = h.1.0;
  others = (and-right (every_cell d.axes (is_cell d.cell) f) (cells_fit ds fs) h.0, h.1.1);
}
