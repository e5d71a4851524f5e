-- Rows of cells: under further axes, of tables side by side, of values out of use, and as tables.
use Rattle.std.proofs.Common.{◌≡◌, refl, sym, ap, ◌∙◌, Bool, true, false, ◌||◌, List, [], ◌∷◌, ◌++◌, map, take, drop, length, ℤ, pos, Option, Some, None}
use Rattle.std.specs.List.{list_all}
use Rattle.ess_semantics.specs.Lists.{is_some_and, or_default}
use Rattle.ess_semantics.specs.Order.{same_int}
use Rattle.ess_semantics.specs.Trees.{Repr, Reprs, repr, no_reprs, more_reprs}
use Rattle.ess_semantics.specs.Domains.{Domain}
use Rattle.ess_semantics.specs.Cells.{Grid, Cells, Axes, behind, every_cell, are_zero, gather, row, rows}
use Rattle.ess_semantics.specs.Layers.{OwnTable, Layer}
use Rattle.ess_semantics.specs.Representations.{layer}
use Rattle.ess_semantics.specs.Declarations.{Declaration, declared_own, under, leaves_out, declarations_below, declarations_of_children, axes_of}
use Rattle.ess_semantics.proofs.Tests.{and-left, and-right, some-and}
use Rattle.ess_semantics.proofs.Orders.{same_int-equal}

-- ---- of each number of a list

-- P of each number
abbrev pub EachOf : List ℤ → (ℤ → Type 0) → Type 0
EachOf [] P = Unit {0}
EachOf (k ∷ ks) P = P k × EachOf ks P

-- Answers that agree make one list.
pub gather-same : (ks : List ℤ) (f g : ℤ → List ℤ) → EachOf ks (λ k. f k ≡ g k) → gather ks f ≡ gather ks g
gather-same [] f g h = refl
gather-same (k ∷ ks) f g h = ap (λ l. l ++ gather ks f) h.0 ∙ ap (λ l. g k ++ l) (gather-same ks f g h.1)

-- What holds of a number gives something else of it.
pub each-map : (ks : List ℤ) (P Q : ℤ → Type 0) → ((k : ℤ) → P k → Q k) → EachOf ks P → EachOf ks Q
each-map [] P Q f h = tt
each-map (k ∷ ks) P Q f h = (f k h.0, each-map ks P Q f h.1)

-- Two things that hold of a number.
pub each-both : (ks : List ℤ) (P Q R : ℤ → Type 0) → ((k : ℤ) → P k → Q k → R k) → EachOf ks P → EachOf ks Q → EachOf ks R
each-both [] P Q R f h i = tt
each-both (k ∷ ks) P Q R f h i = (f k h.0 i.0, each-both ks P Q R f h.1 i.1)

-- A test of each number.
pub each-of-all : (ks : List ℤ) (f : ℤ → Bool) → list_all f ks ≡ true → EachOf ks (λ k. f k ≡ true)
each-of-all [] f e = tt
each-of-all (k ∷ ks) f e = (and-left (f k) (list_all f ks) e, each-of-all ks f (and-right (f k) (list_all f ks) e))

-- ---- grids that agree

-- each cell over the axes has R between the two grids
abbrev pub EachCell : Axes → (Option ℤ → Option ℤ → Type 0) → Grid → Grid → Type 0
EachCell [] R f g = R (f []) (g [])
EachCell (a ∷ as') R f g = EachOf a (λ k. EachCell as' R (λ js. f (k ∷ js)) (λ js. g (k ∷ js)))

-- Both tables have the same cells over the axes.
abbrev pub Agree : Axes → Grid → Grid → Type 0
Agree as' f g = EachCell as' (λ x y. x ≡ y) f g

-- Grids that agree over the axes have one row.
pub agree-row : (as' : Axes) (f g : Grid) → Agree as' f g → row as' f ≡ row as' g
agree-row [] f g h = ap (λ o. or_default o (pos 0) ∷ []) h
agree-row (a ∷ as') f g h =
    gather-same a (λ k. row as' (λ js. f (k ∷ js))) (λ k. row as' (λ js. g (k ∷ js)))
    (each-map a _ _ (λ k e. agree-row as' (λ js. f (k ∷ js)) (λ js. g (k ∷ js)) e) h)

-- ---- values out of use

zero-cell : (o : Option ℤ) → is_some_and o (same_int (pos 0)) ≡ true → o ≡ Some (pos 0)
zero-cell o e = let r = some-and o (same_int (pos 0)) e in r.1 ∙ ap Some (sym (same_int-equal (pos 0) r.0 r.2))

zero-agree : (as' : Axes) (f g : Grid) → every_cell as' (same_int (pos 0)) f ≡ true → every_cell as' (same_int (pos 0)) g ≡ true → Agree as' f g
zero-agree [] f g p q = zero-cell (f []) p ∙ sym (zero-cell (g []) q)
zero-agree (a ∷ as') f g p q =
    each-both a _ _ _ (λ k x y. zero-agree as' (λ js. f (k ∷ js)) (λ js. g (k ∷ js)) x y)
    (each-of-all a (λ k. every_cell as' (same_int (pos 0)) (λ js. f (k ∷ js))) p) (each-of-all a (λ k. every_cell as' (same_int (pos 0)) (λ js. g (k ∷ js))) q)

-- All values out of use have the same rows.
pub zeros-same : (ass : List Axes) (c c' : Cells) → are_zero ass c ≡ true → are_zero ass c' ≡ true → rows ass c ≡ rows ass c'
zeros-same [] [] [] p q = refl
zeros-same [] (f ∷ fs) c' p q = refl
zeros-same [] [] (g ∷ gs) p q = refl
zeros-same (as' ∷ ass) [] c' p q = cc
zeros-same (as' ∷ ass) (f ∷ fs) [] p q = cc
zeros-same (as' ∷ ass) (f ∷ fs) (g ∷ gs) p q =
    ap (λ l. l ∷ rows ass fs)
    (agree-row as' f g (zero-agree as' f g (and-left (every_cell as' (same_int (pos 0)) f) (are_zero ass fs) p) (and-left (every_cell as' (same_int (pos 0)) g) (are_zero ass gs) q)))
    ∙ ap (λ l. row as' g ∷ l) (zeros-same ass fs gs (and-right (every_cell as' (same_int (pos 0)) f) (are_zero ass fs) p) (and-right (every_cell as' (same_int (pos 0)) g) (are_zero ass gs) q))

-- ---- tables side by side

-- The rows of two lists of tables.
pub rows-append : (xs ys : List Axes) (c : Cells) → rows (xs ++ ys) c ≡ rows xs (take (length xs) c) ++ rows ys (drop (length xs) c)
rows-append [] ys c = refl
rows-append (x ∷ xs) ys [] = sym (none ys)
  where
    none : (ys : List Axes) → rows ys [] ≡ []
    none [] = refl
    none (y ∷ ys) = refl
rows-append (x ∷ xs) ys (f ∷ fs) = ap (λ l. row x f ∷ l) (rows-append xs ys fs)

-- ---- under further axes

-- P of each index list over the axes
abbrev pub EachIndex : Axes → (List ℤ → Type 0) → Type 0
EachIndex [] P = P []
EachIndex (a ∷ as') P = EachOf a (λ k. EachIndex as' (λ js. P (k ∷ js)))

row-under : (bs as' : Axes) (f g : Grid) → EachIndex bs (λ js. row as' (λ is. f (js ++ is)) ≡ row as' (λ is. g (js ++ is))) → row (bs ++ as') f ≡ row (bs ++ as') g
row-under [] as' f g h = h
row-under (b ∷ bs) as' f g h =
    gather-same b (λ k. row (bs ++ as') (λ is. f (k ∷ is))) (λ k. row (bs ++ as') (λ is. g (k ∷ is)))
    (each-map b _ _ (λ k e. row-under bs as' (λ is. f (k ∷ is)) (λ is. g (k ∷ is)) e) h)

-- What holds at an index list gives something else there.
pub index-map : (as' : Axes) (P Q : List ℤ → Type 0) → ((js : List ℤ) → P js → Q js) → EachIndex as' P → EachIndex as' Q
index-map [] P Q f h = f [] h
index-map (a ∷ as') P Q f h = each-map a _ _ (λ k e. index-map as' (λ js. P (k ∷ js)) (λ js. Q (k ∷ js)) (λ js. f (k ∷ js)) e) h

-- Where the rows behind each index list agree, so do the rows under the axes.
pub rows-under : (bs : Axes) (ass : List Axes) (c c' : Cells) → length c ≡ length ass → length c' ≡ length ass →
    EachIndex bs (λ js. rows ass (behind js c) ≡ rows ass (behind js c')) → rows (map (λ as'. bs ++ as') ass) c ≡ rows (map (λ as'. bs ++ as') ass) c'
rows-under bs [] c c' l m h = refl
rows-under bs (as' ∷ ass) [] c' l m h = cc
rows-under bs (as' ∷ ass) (f ∷ fs) [] l m h = cc
rows-under bs (as' ∷ ass) (f ∷ fs) (g ∷ gs) l m h =
    let l' : length fs ≡ length ass = cc in
    let m' : length gs ≡ length ass = cc in
    ap (λ r. r ∷ rows (map (λ as'. bs ++ as') ass) fs) (row-under bs as' f g (index-map bs _ _ (λ js e. heads js e) h))
    ∙ ap (λ r. row (bs ++ as') g ∷ r) (rows-under bs ass fs gs l' m' (index-map bs _ _ (λ js e. tails js e) h))
  where
    heads : (js : List ℤ) → rows (as' ∷ ass) (behind js (f ∷ fs)) ≡ rows (as' ∷ ass) (behind js (g ∷ gs)) → row as' (λ is. f (js ++ is)) ≡ row as' (λ is. g (js ++ is))
    heads js e = cc

    tails : (js : List ℤ) → rows (as' ∷ ass) (behind js (f ∷ fs)) ≡ rows (as' ∷ ass) (behind js (g ∷ gs)) → rows ass (behind js fs) ≡ rows ass (behind js gs)
    tails js e = cc

-- ---- the axes of a representation's tables

-- The axes of a layer's own tables.
abbrev pub own_axes : List OwnTable → List Axes
own_axes ts = map (λ t. t.axes) ts

-- the axes of declared tables
abbrev pub axes_in : List Declaration → List Axes
axes_in ds = map (λ t. t.axes) ds

-- Those of its children's tables, behind the layer's.
abbrev pub axes_of_children : Reprs → List Domain → Axes → List Axes
axes_of_children (more_reprs r rs) (d ∷ ds) bs = map (λ as'. bs ++ as') (axes_of r d) ++ axes_of_children rs ds bs
axes_of_children _ _ bs = []

map-append : {A B : Type 0} (f : A → B) (xs ys : List A) → map f (xs ++ ys) ≡ map f xs ++ map f ys
map-append f [] ys = refl
map-append f (x ∷ xs) ys = ap (λ l. f x ∷ l) (map-append f xs ys)

in-append : (xs ys : List Declaration) → axes_in (xs ++ ys) ≡ axes_in xs ++ axes_in ys
in-append xs ys = map-append (λ (t : Declaration). t.axes) xs ys

own-axes : (out : Bool) (ts : List OwnTable) → axes_in (map (declared_own out) ts) ≡ own_axes ts
own-axes out [] = refl
own-axes out (t ∷ ts) = ap (λ l. t.axes ∷ l) (own-axes out ts)

under-axes : (bs : Axes) (ds : List Declaration) → axes_in (under bs ds) ≡ map (λ as'. bs ++ as') (map (λ t. t.axes) ds)
under-axes bs [] = refl
under-axes bs (d ∷ ds) = ap (λ l. (bs ++ d.axes) ∷ l) (under-axes bs ds)

mutual
  -- What can be out of use changes no axes.
  pub axes-below : (out : Bool) (r : Repr) (d : Domain) → axes_in (declarations_below out r d) ≡ axes_of r d
  axes-below out (repr k rs) d = go (layer k d) (λ l o. axes-children o rs l.children l.axes)
    where
      go : (o : Option Layer) → ((l : Layer) (o : Bool) → axes_in (declarations_of_children o rs l.children l.axes) ≡ axes_of_children rs l.children l.axes) →
          axes_in (elim o [ None ↦ [] | Some l ↦ map (declared_own out) l.own ++ declarations_of_children (out || leaves_out l.in_use) rs l.children l.axes ])
          ≡ axes_in (elim o [ None ↦ [] | Some l ↦ map (declared_own false) l.own ++ declarations_of_children (false || leaves_out l.in_use) rs l.children l.axes ])
      go None h = refl
      go (Some l) h =
          in-append (map (declared_own out) l.own) (declarations_of_children (out || leaves_out l.in_use) rs l.children l.axes)
          ∙ ap (λ l'. l' ++ axes_in (declarations_of_children (out || leaves_out l.in_use) rs l.children l.axes)) (own-axes out l.own ∙ sym (own-axes false l.own))
          ∙ ap (λ l'. axes_in (map (declared_own false) l.own) ++ l') (h l (out || leaves_out l.in_use) ∙ sym (h l (false || leaves_out l.in_use)))
          ∙ sym (in-append (map (declared_own false) l.own) (declarations_of_children (false || leaves_out l.in_use) rs l.children l.axes))

  axes-children : (out : Bool) (rs : Reprs) (ds : List Domain) (bs : Axes) → axes_in (declarations_of_children out rs ds bs) ≡ axes_of_children rs ds bs
  axes-children out no_reprs ds bs = refl
  axes-children out (more_reprs r rs) [] bs = refl
  axes-children out (more_reprs r rs) (d ∷ ds) bs =
      in-append (under bs (declarations_below out r d)) (declarations_of_children out rs ds bs)
      ∙ ap (λ l. l ++ axes_in (declarations_of_children out rs ds bs)) (under-axes bs (declarations_below out r d) ∙ ap (map (λ as'. bs ++ as')) (axes-below out r d))
      ∙ ap (λ l. map (λ as'. bs ++ as') (axes_of r d) ++ l) (axes-children out rs ds bs)

-- The axes of a layer's tables: its own, then those of the children.
pub axes-of-layer : (l : Layer) (rs : Reprs) →
    axes_in (map (declared_own false) l.own ++ declarations_of_children (false || leaves_out l.in_use) rs l.children l.axes)
    ≡ own_axes l.own ++ axes_of_children rs l.children l.axes
axes-of-layer l rs =
    in-append (map (declared_own false) l.own) (declarations_of_children (false || leaves_out l.in_use) rs l.children l.axes)
    ∙ ap (λ l'. l' ++ axes_in (declarations_of_children (false || leaves_out l.in_use) rs l.children l.axes)) (own-axes false l.own)
    ∙ ap (λ l'. own_axes l.own ++ l') (axes-children (false || leaves_out l.in_use) rs l.children l.axes)
