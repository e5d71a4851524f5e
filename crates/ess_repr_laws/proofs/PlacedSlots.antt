-- Slots in their places as the cells of tables, and what a value out of use leaves there.
use Rattle.std.proofs.Common.{◌≡◌, refl, sym, ap, ◌∙◌, Bool, true, false, ◌&&◌, ◌||◌, if◌then◌else◌, List, [], ◌∷◌, ◌++◌, map, take, drop, length, ℤ, pos, Option, Some, None, is_some}
use Rattle.std.specs.List.{list_all, list_any}
use Rattle.ess_semantics.specs.Lists.{is_some_and}
use Rattle.ess_semantics.specs.Order.{same_int, same_ints}
use Rattle.ess_semantics.specs.Domains.{lists_of}
use Rattle.ess_semantics.specs.Cells.{Grid, Cells, Axes, is_index, first_grid, other_grids, joined, behind, zero_grid, zero_cells, every_cell, are_zero}
use Rattle.ess_semantics.specs.Layers.{Slot}
use Rattle.ess_semantics.specs.Canonical.{cells_or, cells_in_place}
use Rattle.ess_semantics.proofs.Tests.{and-both}
use Rattle.ess_semantics.proofs.Orders.{same_ints-itself}
use Rattle.ess_repr_laws.proofs.RowsOfCells.{EachOf}
use Rattle.ess_repr_laws.proofs.CanonicalPlaces.{AllOf}
use Rattle.ess_repr_laws.proofs.TablesAndCells.{AxesDiffer}
use Rattle.ess_repr_laws.proofs.Behind.{joined-behind}
use Rattle.ess_repr_laws.proofs.ExactCells.{Exact, AllExact, exact-length}
use Rattle.ess_repr_laws.proofs.SideBySide.{Along, along-left, along-right}
use Rattle.ess_repr_laws.proofs.PlacesOfTables.{PlacesDiffer, any-place, each-self, index-length, places-are, places-differ}

-- ---- values out of use

-- a test of each cell over the axes
pub every-cell : (as' : Axes) (P : ℤ → Bool) (f : Grid) → ((js : List ℤ) → is_index as' js ≡ true → is_some_and (f js) P ≡ true) → every_cell as' P f ≡ true
every-cell [] P f h = h [] refl
every-cell (a ∷ as') P f h = go a (each-self a) (λ k e. every-cell as' P (λ js. f (k ∷ js)) (λ js i. h (k ∷ js) (and-both (list_any (same_int k) a) (is_index as' js) e i)))
  where
    go : (ks : List ℤ) → EachOf ks (λ k. list_any (same_int k) a ≡ true) → ((k : ℤ) → list_any (same_int k) a ≡ true → every_cell as' P (λ js. f (k ∷ js)) ≡ true) →
        list_all (λ k. every_cell as' P (λ js. f (k ∷ js))) ks ≡ true
    go [] e ih = refl
    go (k ∷ ks) e ih = and-both (every_cell as' P (λ js. f (k ∷ js))) (list_all (λ k. every_cell as' P (λ js. f (k ∷ js))) ks) (ih k e.0) (go ks e.1 ih)

-- A table that holds 0 has exactly the cells of its axes.
pub zero-exact : (as' : Axes) → Exact as' (zero_grid as')
zero-exact as' js = go (is_index as' js)
  where
    go : (b : Bool) → is_some (if b then Some (pos 0) else None) ≡ b
    go true = refl
    go false = refl

-- The same of several tables.
pub zeros-exact : (ass : List Axes) → AllExact ass (zero_cells ass)
zeros-exact [] = tt
zeros-exact (as' ∷ ass) = (zero-exact as', zeros-exact ass)

-- They hold 0.
pub zeros-zero : (ass : List Axes) → are_zero ass (zero_cells ass) ≡ true
zeros-zero [] = refl
zeros-zero (as' ∷ ass) =
    and-both (every_cell as' (same_int (pos 0)) (zero_grid as')) (are_zero ass (zero_cells ass))
    (every-cell as' (same_int (pos 0)) (zero_grid as') (λ js e. ap (λ b. is_some_and (if b then Some (pos 0) else None) (same_int (pos 0))) e)) (zeros-zero ass)

-- ---- cells in places

-- the cells of a slot are there exactly over the axes
abbrev pub SlotExact : List Axes → Option Slot → Type 0
SlotExact ass None = Unit {0}
SlotExact ass (Some s) = AllExact ass s.1

slot-exact : (ass : List Axes) (s : Option Slot) → SlotExact ass s → AllExact ass (cells_or (zero_cells ass) s)
slot-exact ass None h = zeros-exact ass
slot-exact ass (Some s) h = h

module _ (ass : List Axes) where
  abbrev z : Cells
  z = zero_cells ass

  in-place : (ps : List (List ℤ)) (ss : List (Option Slot)) → length ps ≡ length ss → PlacesDiffer ps → Along ps ss (λ p s. cells_in_place z ps ss p ≡ cells_or z s)
  in-place [] [] e d = tt
  in-place [] (s ∷ ss) e d = cc
  in-place (p ∷ ps) [] e d = cc
  in-place (p ∷ ps) (s ∷ ss) e d =
      let e' : length ps ≡ length ss = cc in (
        ap (λ b. if b then cells_or z s else cells_in_place z ps ss p) (same_ints-itself p),
        along-left ps ss (λ q. same_ints p q ≡ false) (λ q t. cells_in_place z ps ss q ≡ cells_or z t) (λ q t. cells_in_place z (p ∷ ps) (s ∷ ss) q ≡ cells_or z t)
            (λ q t f h. ap (λ b. if b then cells_or z s else cells_in_place z ps ss q) f ∙ h) d.0 (in-place ps ss e' d.1),
      )

  -- at a place there are exact cells, elsewhere none
  where-placed : (ps : List (List ℤ)) (ss : List (Option Slot)) → length ps ≡ length ss → AllOf ss (SlotExact ass) → (js : List ℤ) →
      (list_any (λ p. same_ints p js) ps ≡ true → AllExact ass (cells_in_place z ps ss js)) × (list_any (λ p. same_ints p js) ps ≡ false → cells_in_place z ps ss js ≡ [])
  where-placed [] [] e h js = (λ q. cc, λ q. refl)
  where-placed [] (s ∷ ss) e h js = cc
  where-placed (p ∷ ps) [] e h js = cc
  where-placed (p ∷ ps) (s ∷ ss) e h js = let e' : length ps ≡ length ss = cc in go (same_ints p js) (where-placed ps ss e' h.1 js)
    where
      go : (b : Bool) → (list_any (λ p. same_ints p js) ps ≡ true → AllExact ass (cells_in_place z ps ss js)) × (list_any (λ p. same_ints p js) ps ≡ false → cells_in_place z ps ss js ≡ []) →
          (b || list_any (λ p. same_ints p js) ps ≡ true → AllExact ass (if b then cells_or z s else cells_in_place z ps ss js)) × (b || list_any (λ p. same_ints p js) ps ≡ false → (if b then cells_or z s else cells_in_place z ps ss js) ≡ [])
      go true ih = (λ q. slot-exact ass s h.0, λ q. cc)
      go false ih = ih

index-append : (bs as' : Axes) (js : List ℤ) → is_index (bs ++ as') js ≡ is_index bs (take (length bs) js) && is_index as' (drop (length bs) js)
index-append [] as' js = refl
index-append (b ∷ bs) as' [] = refl
index-append (b ∷ bs) as' (j ∷ js) = ap (λ x. list_any (same_int j) b && x) (index-append bs as' js) ∙ and-assoc (list_any (same_int j) b) (is_index bs (take (length bs) js)) (is_index as' (drop (length bs) js))
  where
    and-assoc : (a b c : Bool) → a && (b && c) ≡ (a && b) && c
    and-assoc true b c = refl
    and-assoc false b c = refl

-- Joined cells are there exactly over the axes, where the parts are.
pub joined-exact : (bs : Axes) (ass : List Axes) (p : List ℤ → Cells) → ((js : List ℤ) → (is_index bs js ≡ true → AllExact ass (p js)) × (is_index bs js ≡ false → p js ≡ [])) →
    AllExact (map (λ as'. bs ++ as') ass) (joined (length bs) (length ass) p)
joined-exact bs [] p h = tt
joined-exact bs (as' ∷ ass) p h = (
  λ is. first is (is_index bs (take (length bs) is)) refl,
  joined-exact bs ass (λ js. other_grids (p js)) (λ js. (λ e. rest (p js) ((h js).0 e), λ e. ap other_grids ((h js).1 e))),
)
  where
    rest : (c : Cells) → AllExact (as' ∷ ass) c → AllExact ass (other_grids c)
    rest [] a = absurd a
    rest (f ∷ fs) a = a.1

    heads : (c : Cells) → AllExact (as' ∷ ass) c → Exact as' (first_grid c)
    heads [] a = absurd a
    heads (f ∷ fs) a = a.0

    first : (is : List ℤ) (b : Bool) → is_index bs (take (length bs) is) ≡ b → is_some (first_grid (p (take (length bs) is)) (drop (length bs) is)) ≡ is_index (bs ++ as') is
    first is true e = heads (p (take (length bs) is)) ((h (take (length bs) is)).0 e) (drop (length bs) is) ∙ ap (λ b. b && is_index as' (drop (length bs) is)) (sym e) ∙ sym (index-append bs as' is)
    first is false e = ap (λ c. is_some (first_grid c (drop (length bs) is))) ((h (take (length bs) is)).1 e) ∙ ap (λ b. b && is_index as' (drop (length bs) is)) (sym e) ∙ sym (index-append bs as' is)

-- The cells of slots in their places, as tables under the layer's axes.
abbrev pub placed : List Axes → Axes → List (Option Slot) → Cells
placed ass bs ss = joined (length bs) (length ass) (cells_in_place (zero_cells ass) (lists_of bs) ss)

-- Slots in places have exactly the cells of all axes.
pub placed-exact : (ass : List Axes) (bs : Axes) (ss : List (Option Slot)) → length (lists_of bs) ≡ length ss → AllOf ss (SlotExact ass) → AllExact (map (λ as'. bs ++ as') ass) (placed ass bs ss)
placed-exact ass bs ss e h =
    joined-exact bs ass (cells_in_place (zero_cells ass) (lists_of bs) ss)
    (λ js. let w = where-placed ass (lists_of bs) ss e h js in (λ q. w.0 (any-place bs js ∙ q), λ q. w.1 (any-place bs js ∙ q)))

-- Behind a place stand the cells of its slot.
pub placed-behind : (ass : List Axes) (bs : Axes) (ss : List (Option Slot)) → AxesDiffer bs → length (lists_of bs) ≡ length ss → AllOf ss (SlotExact ass) →
    Along (lists_of bs) ss (λ p s. behind p (placed ass bs ss) ≡ cells_or (zero_cells ass) s)
placed-behind ass bs ss d e h =
    along-left (lists_of bs) ss (λ p. is_index bs p ≡ true) (λ p s. SlotExact ass s × (cells_in_place (zero_cells ass) (lists_of bs) ss p ≡ cells_or (zero_cells ass) s)) (λ p s. behind p (placed ass bs ss) ≡ cells_or (zero_cells ass) s)
    (λ p s i q. joined-behind (length bs) (length ass) (cells_in_place (zero_cells ass) (lists_of bs) ss) p (index-length bs p i)
    (ap length q.1 ∙ exact-length ass (cells_or (zero_cells ass) s) (slot-exact ass s q.0)) ∙ q.1)
    (places-are bs)
    (along-right (lists_of bs) ss (SlotExact ass) (λ p s. cells_in_place (zero_cells ass) (lists_of bs) ss p ≡ cells_or (zero_cells ass) s)
    (λ p s. SlotExact ass s × (cells_in_place (zero_cells ass) (lists_of bs) ss p ≡ cells_or (zero_cells ass) s)) (λ p s x y. (x, y)) h
    (in-place ass (lists_of bs) ss e (places-differ bs d)))
