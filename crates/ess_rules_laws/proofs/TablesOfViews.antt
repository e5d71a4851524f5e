-- The tables of a child of a layer, and their axes behind one more index.
use Rattle.std.proofs.Common.{◌≡◌, refl, sym, ap, ◌∙◌, ℕ, zero, suc, ◌+◌, ◌≤◌, Bool, true, false, ◌&&◌, ◌||◌, List, [], ◌∷◌, ◌++◌, map, take, drop, length, ℤ, Option, Some, None, arith}
use Rattle.std.proofs.Math.Path.{fun_ext}
use Rattle.ess_semantics.specs.declared.words.ReprKind.{ReprKind}
use Rattle.ess_semantics.specs.Trees.{Repr, Reprs, repr, no_reprs, more_reprs}
use Rattle.ess_semantics.specs.Domains.{Domain, booleans, integers, named, tuples, records, matrices, sets, msets, functions, relations, partitions}
use Rattle.ess_semantics.specs.Tables.{Tables, cell_at, same_axes, is_filled}
use Rattle.ess_semantics.specs.Order.{same_ints}
use Rattle.ess_semantics.specs.Cells.{Cells, Axes, behind, cells_of, cells_at}
use Rattle.ess_semantics.specs.Layers.{Layer, OwnTable}
use Rattle.ess_semantics.specs.Representations.{layer, own_width, width, widths}
use Rattle.ess_semantics.specs.Declarations.{Declaration, declared_own, under, leaves_out, declarations_below, declarations_of_children}
use Rattle.ess_semantics.specs.Tidy.{over_axes}
use Rattle.ess_semantics.proofs.Tests.{and-left, and-right, and-both}

-- ---- how many tables there are

-- The own tables of a layer that is there.
abbrev owns : Option Layer → List OwnTable
owns None = []
owns (Some l) = l.own

own-short : (k : ReprKind) (d : Domain) → length (owns (layer k d)) ≤ own_width k
own-short ReprKind.Atom booleans = omega arith
own-short ReprKind.Atom (integers ss) = omega arith
own-short ReprKind.Atom (named t n) = omega arith
own-short ReprKind.Occurrence (sets ks d) = omega arith
own-short ReprKind.ExplicitVarSizeWithMarker (sets ks d) = omega arith
own-short ReprKind.ExplicitVarSizeWithFlags (sets ks d) = omega arith
own-short ReprKind.ExplicitVarSizeWithDummy (sets ks d) = omega arith
own-short ReprKind.MSetOccurrence (msets ks d) = omega arith
own-short ReprKind.MSetExplicitWithRepetition (msets ks d) = omega arith
own-short ReprKind.MSetExplicitWithFlags (msets ks d) = omega arith
own-short ReprKind.Function1DPartial (functions ks d c) = omega arith
own-short ReprKind.FunctionNDPartial (functions ks (tuples ds) c) = omega arith
own-short ReprKind.RelationAsMatrix (relations ks ds) = omega arith
own-short ReprKind.PartitionOccurrence (partitions ks d) = omega arith
own-short ReprKind.Tuple (tuples ds) = omega arith
own-short ReprKind.Rec (records fs ds) = omega arith
own-short ReprKind.Matrix (matrices is d) = omega arith
own-short ReprKind.Explicit (sets ks d) = omega arith
own-short ReprKind.Function1D (functions ks d c) = omega arith
own-short ReprKind.FunctionND (functions ks (tuples ds) c) = omega arith
own-short ReprKind.FunctionAsRelation (functions ks d c) = omega arith
own-short ReprKind.RelationAsSet (relations ks ds) = omega arith
own-short ReprKind.PartitionAsSet (partitions ks d) = omega arith
own-short _ _ = omega arith

map-long : {A B : Type 0} (f : A → B) (xs : List A) → length (map f xs) ≡ length xs
map-long f [] = refl
map-long f (x ∷ xs) = ap suc (map-long f xs)

both-long : {A : Type 0} (xs ys : List A) → length (xs ++ ys) ≡ length xs + length ys
both-long [] ys = omega arith
both-long (x ∷ xs) ys = let h = both-long xs ys in omega arith

under-long : (as' : Axes) (ds : List Declaration) → length (under as' ds) ≡ length ds
under-long as' [] = refl
under-long as' (d ∷ ds) = ap suc (under-long as' ds)

-- The tables of a layer with its children.
abbrev below : Bool → Reprs → Option Layer → List Declaration
below out rs None = []
below out rs (Some l) = map (declared_own out) l.own ++ declarations_of_children (out || leaves_out l.in_use) rs l.children l.axes

below-is : (out : Bool) (k : ReprKind) (rs : Reprs) (d : Domain) → declarations_below out (repr k rs) d ≡ below out rs (layer k d)
below-is out k rs d = go (layer k d)
  where
    go : (o : Option Layer) →
        elim o [
          | None ↦ []
          | Some l ↦ map (declared_own out) l.own ++ declarations_of_children (out || leaves_out l.in_use) rs l.children
              l.axes
        ] ≡ below out rs o
    go None = refl
    go (Some l) = refl

mutual
  -- There are no more tables than the representation has.
  pub tables-short : (out : Bool) (r : Repr) (d : Domain) → length (declarations_below out r d) ≤ width r
  tables-short out (repr k rs) d = let e = ap length (below-is out k rs d) in
      let h = go (layer k d) (own-short k d) (λ l. children-short (out || leaves_out l.in_use) rs l.children l.axes) in omega arith
    where
      go : (o : Option Layer) → length (owns o) ≤ own_width k →
          ((l : Layer) → length (declarations_of_children (out || leaves_out l.in_use) rs l.children l.axes) ≤ widths rs) →
          length (below out rs o) ≤ own_width k + widths rs
      go None h f = omega arith
      go (Some l) h f =
          let a = both-long (map (declared_own out) l.own) (declarations_of_children (out || leaves_out l.in_use) rs l.children l.axes) in
          let b = map-long (declared_own out) l.own in let c = f l in omega arith

  children-short : (out : Bool) (rs : Reprs) (ds : List Domain) (as' : Axes) → length (declarations_of_children out rs ds as') ≤ widths rs
  children-short out no_reprs ds as' = omega arith
  children-short out (more_reprs r rs) [] as' = omega arith
  children-short out (more_reprs r rs) (d ∷ ds) as' =
      let a = both-long (under as' (declarations_below out r d)) (declarations_of_children out rs ds as') in
      let b = under-long as' (declarations_below out r d) in
      let c = tables-short out r d in let e = children-short out rs ds as' in omega arith

-- ---- axes

-- The axes of declared tables.
abbrev pub axes_in : List Declaration → List Axes
axes_in ds = map (λ t. t.axes) ds

axes-append : (xs ys : List Declaration) → axes_in (xs ++ ys) ≡ axes_in xs ++ axes_in ys
axes-append [] ys = refl
axes-append (x ∷ xs) ys = ap (λ l. x.axes ∷ l) (axes-append xs ys)

own-axes : (out : Bool) (ts : List OwnTable) → axes_in (map (declared_own out) ts) ≡ axes_in (map (declared_own false) ts)
own-axes out [] = refl
own-axes out (t ∷ ts) = ap (λ l. t.axes ∷ l) (own-axes out ts)

under-axes : (as' : Axes) (xs ys : List Declaration) → axes_in xs ≡ axes_in ys → axes_in (under as' xs) ≡ axes_in (under as' ys)
under-axes as' xs ys h = each as' xs ∙ ap (map (λ bs. as' ++ bs)) h ∙ sym (each as' ys)
  where
    each : (as' : Axes) (xs : List Declaration) → axes_in (under as' xs) ≡ map (λ bs. as' ++ bs) (axes_in xs)
    each as' [] = refl
    each as' (x ∷ xs) = ap (λ l. (as' ++ x.axes) ∷ l) (each as' xs)

mutual
  -- Axes don't depend on whether cells can be out of use.
  pub axes-same : (out : Bool) (r : Repr) (d : Domain) → axes_in (declarations_below out r d) ≡ axes_in (declarations_below false r d)
  axes-same out (repr k rs) d = ap axes_in (below-is out k rs d)
      ∙ go (layer k d) (λ l. children-same (out || leaves_out l.in_use) (false || leaves_out l.in_use) rs l.children l.axes)
      ∙ ap axes_in (sym (below-is false k rs d))
    where
      go : (o : Option Layer) → ((l : Layer) → axes_in (declarations_of_children (out || leaves_out l.in_use) rs l.children l.axes)
          ≡ axes_in (declarations_of_children (false || leaves_out l.in_use) rs l.children l.axes)) → axes_in (below out rs o) ≡
          axes_in (below false rs o)
      go None f = refl
      go (Some l) f =
          axes-append (map (declared_own out) l.own) (declarations_of_children (out || leaves_out l.in_use) rs l.children l.axes)
          ∙ ap (λ z. z ++ axes_in (declarations_of_children (out || leaves_out l.in_use) rs l.children l.axes)) (own-axes out l.own)
          ∙ ap (λ z. axes_in (map (declared_own false) l.own) ++ z) (f l)
          ∙ sym (axes-append (map (declared_own false) l.own)
          (declarations_of_children (false || leaves_out l.in_use) rs l.children l.axes))

  children-same : (out o2 : Bool) (rs : Reprs) (ds : List Domain) (as' : Axes) → axes_in (declarations_of_children out rs ds as') ≡
      axes_in (declarations_of_children o2 rs ds as')
  children-same out o2 no_reprs ds as' = refl
  children-same out o2 (more_reprs r rs) [] as' = refl
  children-same out o2 (more_reprs r rs) (d ∷ ds) as' =
      axes-append (under as' (declarations_below out r d)) (declarations_of_children out rs ds as')
      ∙ ap (λ z. z ++ axes_in (declarations_of_children out rs ds as'))
      (under-axes as' (declarations_below out r d) (declarations_below o2 r d) (axes-same out r d ∙ sym (axes-same o2 r d)))
      ∙ ap (λ z. axes_in (under as' (declarations_below o2 r d)) ++ z) (children-same out o2 rs ds as')
      ∙ sym (axes-append (under as' (declarations_below o2 r d)) (declarations_of_children o2 rs ds as'))

-- ---- one more index

drop-more : {A : Type 0} (i : List ℤ) (k : ℤ) (xs : List A) → drop (length (i ++ (k ∷ []))) xs ≡ drop 1 (drop (length i) xs)
drop-more [] k xs = refl
drop-more (j ∷ i) k [] = refl
drop-more (j ∷ i) k (x ∷ xs) = drop-more i k xs

axes-behind : (xs : Axes) (a : List ℤ) (as' : Axes) → same_axes xs (a ∷ as') ≡ true → same_axes (drop 1 xs) as' ≡ true
axes-behind [] a as' h = no h
  where
    no : {A : Type 0} → false ≡ true → A
    no h = cc
axes-behind (x ∷ xs) a as' h = and-right (same_ints x a) _ h

-- Tables over axes with one more axis in front are, behind one more index, over the axes.
pub over-behind : (i : List ℤ) (k : ℤ) (a : List ℤ) (ds : List Declaration) (ts : Tables) →
    over_axes i (axes_in (under (a ∷ []) ds ++ [])) ts ≡ true →
    over_axes (i ++ (k ∷ [])) (axes_in ds) ts ≡ true
over-behind i k a [] [] h = refl
over-behind i k a [] (t ∷ ts) h = h
over-behind i k a (d ∷ ds) [] h = h
over-behind i k a (d ∷ ds) (t ∷ ts) h =
    and-both (is_filled t && same_axes (drop (length (i ++ (k ∷ []))) t.axes) d.axes) _
    (and-both (is_filled t) _ (and-left _ _ (and-left _ _ h))
    (ap (λ z. same_axes z d.axes) (drop-more i k t.axes)
    ∙ axes-behind (drop (length i) t.axes) a d.axes (and-right (is_filled t) _ (and-left _ _ h))))
    (over-behind i k a ds ts (and-right _ _ h))

-- There are as many axes as tables.
pub axes-long : (ds : List Declaration) → length (axes_in ds) ≡ length ds
axes-long ds = map-long (λ t. t.axes) ds

-- Tables over axes are as many.
pub over-long : (i : List ℤ) (ass : List Axes) (ts : Tables) → over_axes i ass ts ≡ true → length ts ≡ length ass
over-long i [] [] h = refl
over-long i [] (t ∷ ts) h = cc
over-long i (a ∷ ass) [] h = cc
over-long i (a ∷ ass) (t ∷ ts) h = ap suc (over-long i ass ts (and-right _ _ h))

-- ---- cells behind one more index

behind-append : (is js : List ℤ) (c : Cells) → behind (is ++ js) c ≡ behind js (behind is c)
behind-append is js [] = refl
behind-append is js (f ∷ fs) = ap (λ g. g ∷ behind (is ++ js) fs) (fun_ext (λ ks. ap f (go is ks)))
    ∙ ap (λ gs. (λ ks. f (is ++ (js ++ ks))) ∷ gs) (behind-append is js fs)
  where
    go : (is ks : List ℤ) → (is ++ js) ++ ks ≡ is ++ (js ++ ks)
    go [] ks = refl
    go (i ∷ is) ks = ap (λ l. i ∷ l) (go is ks)

-- The cells at two prefixes, one behind the other.
pub cells-append : (ts : Tables) (is js : List ℤ) → cells_at ts (is ++ js) ≡ behind js (cells_at ts is)
cells-append ts is js = behind-append is js (cells_of ts)

-- So many tables, taken of no more.
pub take-all : {A : Type 0} (n : ℕ) (xs : List A) → length xs ≤ n → take n xs ≡ xs
take-all zero [] h = refl
take-all zero (x ∷ xs) h = absurd (omega arith)
take-all (suc n) [] h = refl
take-all (suc n) (x ∷ xs) h = ap (λ l. x ∷ l) (take-all n xs (omega arith))

-- Tables have as many cells.
pub cells-long : (ts : Tables) (i : List ℤ) → length (cells_at ts i) ≡ length ts
cells-long ts i = map-long _ (cells_of ts) ∙ map-long cell_at ts
