-- Tables that fit are full for their rows, at index lists of which each cell is there.
use Rattle.std.proofs.Common.{◌≡◌, refl, sym, ap, subst, ℕ, suc, ◌<◌, Bool, true, false, ◌||◌, List, [], ◌∷◌, ◌++◌, map, ℤ, pos, Option, Some, None, is_some, append-nil, append_assoc}
use Rattle.std.specs.List.{list_all}
use Rattle.ess_semantics.specs.declared.words.Op1.{Op1}
use Rattle.ess_semantics.specs.declared.words.Op2.{Op2}
use Rattle.ess_semantics.specs.declared.words.Fun.{Fun}
use Rattle.ess_semantics.specs.Lists.{is_some_and}
use Rattle.ess_semantics.specs.Values.{Text, Value}
use Rattle.ess_semantics.specs.Order.{same_text}
use Rattle.ess_semantics.specs.Names.{look, Names}
use Rattle.ess_semantics.specs.Types.{Ty, bind_types, type_of_dom}
use Rattle.ess_semantics.specs.Contexts.{Each, EachOf}
use Rattle.ess_semantics.specs.Trees.{word, unary, name_pat, Ex, Exs, number_ex, name_ex, comp_ex, cell_ex, Dom, fun1}
use Rattle.ess_semantics.specs.Domains.{add_heads, lists_of}
use Rattle.ess_semantics.specs.Tables.{Table, Tables, code, cell_at}
use Rattle.ess_semantics.specs.Cells.{Axes, Grid, every_cell}
use Rattle.ess_semantics.specs.Meaning.{Env, meaning}
use Rattle.ess_semantics.specs.Full.{Full, FullUnder}
use Rattle.ess_semantics.proofs.Tests.{and-left, and-right}
use Rattle.ess_repr_laws.specs.StructureParts.{Shape, add_ex, row_gens, row_index, row_ex, less_ex, at_most_ex, out_ex, zero_ex, zeros_ex, level_behind}
use Rattle.ess_repr_laws.specs.StructureMeaning.{Bound, M, AxesAre, Placed, fit}
use Rattle.ess_repr_laws.proofs.CanonicalPlaces.{AllOf, all-of-map}
use Rattle.ess_repr_laws.proofs.StructureRows.{Steady, There, codes, grid_at, steady-name}
use Rattle.ess_repr_laws.proofs.StructureUse.{cell-means}
use Rattle.ess_repr_structure_laws.proofs.BuiltShapes.{AxesHave}
use Rattle.ess_repr_structure_laws.proofs.BuiltStructures as B
use Rattle.ess_repr_full_laws.proofs.FullParts.{Anywhere, FullIn, operands-anywhere, dom-anywhere, row-index-anywhere, truth-full, number-full, two-full, one-full}

-- Cells that are there with a property are there.
pub every-there : (as' : Axes) (p : ℤ → Bool) (f : Grid) → every_cell as' p f ≡ true → AllOf (lists_of as') (λ js. is_some (f js) ≡ true)
every-there [] p f h = (one (f []) h, tt)
  where
    one : (o : Option ℤ) → is_some_and o p ≡ true → is_some o ≡ true
    one None h = cc
    one (Some z) h = refl
every-there (a ∷ as') p f h = go a h (λ k x. every-there as' p (λ js. f (k ∷ js)) x)
  where
    front : (k : ℤ) (ps ms : List (List ℤ)) → AllOf ps (λ js. is_some (f (k ∷ js)) ≡ true) → AllOf ms (λ js. is_some (f js) ≡ true) →
        AllOf (map (λ l. k ∷ l) ps ++ ms) (λ js. is_some (f js) ≡ true)
    front k [] ms x y = y
    front k (p ∷ ps) ms x y = (x.0, front k ps ms x.1 y)

    go : (ks : List ℤ) → list_all (λ k. every_cell as' p (λ js. f (k ∷ js))) ks ≡ true →
        ((k : ℤ) → every_cell as' p (λ js. f (k ∷ js)) ≡ true → AllOf (lists_of as') (λ js. is_some (f (k ∷ js)) ≡ true)) →
        AllOf (add_heads ks (lists_of as')) (λ js. is_some (f js) ≡ true)
    go [] h ih = tt
    go (k ∷ ks) h ih =
        front k (lists_of as') (add_heads ks (lists_of as'))
        (ih k (and-left (every_cell as' p (λ js. f (k ∷ js))) (list_all (λ k. every_cell as' p (λ js. f (k ∷ js))) ks) h))
        (go ks (and-right (every_cell as' p (λ js. f (k ∷ js))) (list_all (λ k. every_cell as' p (λ js. f (k ∷ js))) ks) h) ih)

module _ (env0 : Env) (q : ℕ → Text) (q-apart : (m l : ℕ) → l < m → same_text (q m) (q l) ≡ false) where
  abbrev B' : Type 0
  B' = Bound env0 q q-apart

  abbrev N : B' → Env
  N = M env0 q q-apart

  -- A cell that is there.
  pub cell-full : (b : Bool) (n : Text) (t : Table) (is : Exs) (i : List ℤ) (bs : B') → look env0.cells n ≡ Some t → (l : ℕ) → Steady env0
      q q-apart l is i bs →
      B.AllHave (Anywhere env0) is → is_some (cell_at t i) ≡ true → FullIn (cell_ex b n is) (N bs)
  cell-full b n t is i bs h l st a c = record { full = λ g. (IsTrue-of b, operands-anywhere env0 is a g (N bs)) }
    where
      found : (b : Bool) (o : Option ℤ) → cell_at t i ≡ o → is_some o ≡ true → is_some (meaning (cell_ex b n is) (N bs)) ≡ true
      found b None e k = cc
      found b (Some z) e k = ap is_some (cell-means env0 q q-apart b n t is i bs z h (st [] tt) e)

      IsTrue-of : (b : Bool) → b || is_some (meaning (cell_ex b n is) (N bs)) ≡ true
      IsTrue-of true = refl
      IsTrue-of false = found false (cell_at t i) refl c

  -- ---- places

  -- What the tables are full for at a place: whatever is bound so that the index list is that of the place.
  abbrev pub FullAt : ℕ → Exs → Ex → List ℤ → Type 0
  FullAt l is part js = (cs : B') → Steady env0 q q-apart l is js cs → FullIn part (N cs)

  -- At each place.
  gens-full : (l : ℕ) (as' : List Dom) (vss : List (List Value)) (is : Exs) (i : List ℤ) (bs : B') (part : Ex) → AxesAre env0 q q-apart as'
      vss → B.ListHas (Anywhere env0) as' →
      Steady env0 q q-apart l is i bs → AllOf (lists_of (codes env0 q q-apart vss))
      (λ js. FullAt (level_behind l as') (row_index q l as' is) part (i ++ js)) → (g : Names Ty) →
      FullUnder (row_gens q l as') g (N bs) (λ h here. Full part h here)
  gens-full l [] [] is i bs part ax m st h g = let x : FullIn part (N bs) = h.0 bs
      (subst (λ j. Steady env0 q q-apart l is j bs) (sym (append-nil i)) st) in x.full g
  gens-full l [] (vs ∷ vss) is i bs part ax m st h g = absurd ax
  gens-full l (a ∷ as') [] is i bs part ax m st h g = absurd ax
  gens-full l (a ∷ as') (vs ∷ vss) is i bs part ax m st h g = (
    dom-anywhere env0 a m.0 g (N bs),
    subst (λ o. EachOf o K) (sym (ax.0 bs)) (each vs h
        (λ u x. gens-full (suc l) as' vss (add_ex is (name_ex (q l))) (i ++ (code u ∷ [])) ((l, u) ∷ bs) part ax.1 m.1
        (steady-name env0 q q-apart l u is i bs st) x (bind_types (name_pat (q l)) (type_of_dom a) g))),
  )
    where
      K : Value → Type 0
      K v = FullUnder (row_gens q (suc l) as') (bind_types (name_pat (q l)) (type_of_dom a) g) (N ((l, v) ∷ bs))
          (λ h here. Full part h here)

      L : List (List ℤ)
      L = lists_of (codes env0 q q-apart vss)

      Here : List ℤ → Type 0
      Here js = FullAt (level_behind l (a ∷ as')) (row_index q l (a ∷ as') is) part js

      front : (k : ℤ) (ps ms : List (List ℤ)) → AllOf (map (λ p. k ∷ p) ps ++ ms) (λ js. Here (i ++ js)) → AllOf ps
          (λ js. Here ((i ++ (k ∷ [])) ++ js))
      front k [] ms h = tt
      front k (p ∷ ps) ms h = (subst Here (sym (append_assoc i (k ∷ []) p)) h.0, front k ps ms h.1)

      rest : (k : ℤ) (ps ms : List (List ℤ)) → AllOf (map (λ p. k ∷ p) ps ++ ms) (λ js. Here (i ++ js)) → AllOf ms (λ js. Here (i ++ js))
      rest k [] ms h = h
      rest k (p ∷ ps) ms h = rest k ps ms h.1

      each : (us : List Value) → AllOf (add_heads (map code us) L) (λ js. Here (i ++ js)) →
          ((u : Value) → AllOf L (λ js. Here ((i ++ (code u ∷ [])) ++ js)) → K u) → Each us K
      each [] h ih = tt
      each (u ∷ us) h ih = (
        ih u (front (code u) L (add_heads (map code us) L) h),
        each us (rest (code u) L (add_heads (map code us) L) h)
            ih,
      )

  -- A comprehension over the places of axes, and a fold of it.
  pub places-full : (l : ℕ) (as' : List Dom) (vss : List (List Value)) (is : Exs) (i : List ℤ) (bs : B') (part : Ex) → AxesAre env0 q
      q-apart as' vss → B.ListHas (Anywhere env0) as' →
      Steady env0 q q-apart l is i bs → AllOf (lists_of (codes env0 q q-apart vss))
      (λ js. FullAt (level_behind l as') (row_index q l as' is) part (i ++ js)) →
      FullIn (comp_ex part (row_gens q l as')) (N bs)
  places-full l as' vss is i bs part ax m st h = record { full = λ g. gens-full l as' vss is i bs part ax m st h g }

  pub fold-full : (b : Bool) (f : Fun) (x : Ex) (bs : B') → FullIn x (N bs) → FullIn (fun1 b f x) (N bs)
  fold-full b f x bs h = one-full (N bs) b (word f) x h

  -- ---- rows

  -- The cells of a table at each place.
  pub cells-full : (l : ℕ) (b : Bool) (n : Text) (t : Table) (as' : List Dom) (vss : List (List Value)) (is : Exs) (i : List ℤ)
      (p : ℤ → Bool) → look env0.cells n ≡ Some t →
      B.AllHave (Anywhere env0) is → every_cell (codes env0 q q-apart vss) p (grid_at env0 q q-apart t i) ≡ true →
      AllOf (lists_of (codes env0 q q-apart vss))
      (λ js. FullAt (level_behind l as') (row_index q l as' is) (cell_ex b n (row_index q l as' is)) (i ++ js))
  cells-full l b n t as' vss is i p h a e =
      all-of-map (lists_of (codes env0 q q-apart vss)) (λ js. is_some (cell_at t (i ++ js)) ≡ true)
      (λ js. FullAt (level_behind l as') (row_index q l as' is) (cell_ex b n (row_index q l as' is)) (i ++ js))
      (λ js x. λ cs st. cell-full b n t (row_index q l as' is) (i ++ js) cs h (level_behind l as') st
      (row-index-anywhere env0 q l as' is a) x)
      (every-there (codes env0 q q-apart vss) p (grid_at env0 q q-apart t i) e)

  -- What is built of one cell at each place.
  pub of-cells : (l : ℕ) (b : Bool) (n : Text) (t : Table) (as' : List Dom) (vss : List (List Value)) (is : Exs) (i : List ℤ) (bs : B')
      (part : Ex) (p : ℤ → Bool) → look env0.cells n ≡ Some t → AxesAre env0 q q-apart as' vss → B.ListHas (Anywhere env0) as' →
      B.AllHave (Anywhere env0) is → every_cell (codes env0 q q-apart vss) p (grid_at env0 q q-apart t i) ≡ true →
      Steady env0 q q-apart l is i bs →
      ((cs : B') → FullIn (cell_ex b n (row_index q l as' is)) (N cs) → FullIn part (N cs)) →
      FullIn (comp_ex part (row_gens q l as')) (N bs)
  of-cells l b n t as' vss is i bs part p h ax m a e st f =
      places-full l as' vss is i bs part ax m st
      (all-of-map (lists_of (codes env0 q q-apart vss))
      (λ js. FullAt (level_behind l as') (row_index q l as' is) (cell_ex b n (row_index q l as' is)) (i ++ js))
      (λ js. FullAt (level_behind l as') (row_index q l as' is) part (i ++ js)) (λ js x. λ cs s. f cs (x cs s))
      (cells-full l b n t as' vss is i p h a e))

  row-full : (l : ℕ) (s : Shape) (t : Table) (vss : List (List Value)) (is : Exs) (i : List ℤ) (bs : B') → look env0.cells s.name ≡ Some t →
      AxesAre env0 q q-apart s.axes vss → B.ListHas (Anywhere env0) s.axes → B.AllHave (Anywhere env0) is →
      every_cell (codes env0 q q-apart vss) (fit s.truth) (grid_at env0 q q-apart t i) ≡ true → Steady env0 q q-apart l is i bs →
      FullIn (row_ex q l s is) (N bs)
  row-full l s t vss is i bs h ax m a e st = of-cells l s.truth s.name t s.axes vss is i bs _ (fit s.truth) h ax m a e st (λ cs x. x)

  -- The comparison of rows at two index lists.
  pub less-full : (l : ℕ) (ss : List Shape) (vsss : List (List (List Value))) (ts : Tables) (is js : Exs) (i j : List ℤ) (bs : B') →
      Placed env0 q q-apart ss vsss ts → There env0 q q-apart ss vsss ts i → There env0 q q-apart ss vsss ts j →
      AxesHave (Anywhere env0) ss →
      B.AllHave (Anywhere env0) is → B.AllHave (Anywhere env0) js → Steady env0 q q-apart l is i bs → Steady env0 q q-apart l js j bs →
      FullIn (less_ex q l ss is js) (N bs)
  less-full l [] vsss ts is js i j bs p x y m a b c d = truth-full (N bs) false
  less-full l (s ∷ ss) (vss ∷ vsss) (t ∷ ts) is js i j bs p x y m a b c d =
      let f : FullIn (row_ex q l s is) (N bs) = row-full l s t vss is i bs p.0 p.1 m.0 a x.0 c in
      let h : FullIn (row_ex q l s js) (N bs) = row-full l s t vss js j bs p.0 p.1 m.0 b y.0 d in
      two-full (N bs) true Op2.Or _ _ (two-full (N bs) true Op2.LexLt _ _ f h)
      (two-full (N bs) true Op2.And _ _ (two-full (N bs) true Op2.LexLe _ _ f h)
      (less-full l ss vsss ts is js i j bs p.2 x.1 y.1 m.1 a b c d))
  less-full l (s ∷ ss) [] ts is js i j bs p x y m a b c d = absurd p
  less-full l (s ∷ ss) (vss ∷ vsss) [] is js i j bs p x y m a b c d = absurd p

  pub at-most-full : (l : ℕ) (ss : List Shape) (vsss : List (List (List Value))) (ts : Tables) (is js : Exs) (i j : List ℤ) (bs : B') →
      Placed env0 q q-apart ss vsss ts → There env0 q q-apart ss vsss ts i → There env0 q q-apart ss vsss ts j →
      AxesHave (Anywhere env0) ss →
      B.AllHave (Anywhere env0) is → B.AllHave (Anywhere env0) js → Steady env0 q q-apart l is i bs → Steady env0 q q-apart l js j bs →
      FullIn (at_most_ex q l ss is js) (N bs)
  at-most-full l [] vsss ts is js i j bs p x y m a b c d = truth-full (N bs) true
  at-most-full l (s ∷ ss) (vss ∷ vsss) (t ∷ ts) is js i j bs p x y m a b c d =
      let f : FullIn (row_ex q l s is) (N bs) = row-full l s t vss is i bs p.0 p.1 m.0 a x.0 c in
      let h : FullIn (row_ex q l s js) (N bs) = row-full l s t vss js j bs p.0 p.1 m.0 b y.0 d in
      two-full (N bs) true Op2.Or _ _ (two-full (N bs) true Op2.LexLt _ _ f h)
      (two-full (N bs) true Op2.And _ _ (two-full (N bs) true Op2.LexLe _ _ f h)
      (at-most-full l ss vsss ts is js i j bs p.2 x.1 y.1 m.1 a b c d))
  at-most-full l (s ∷ ss) [] ts is js i j bs p x y m a b c d = absurd p
  at-most-full l (s ∷ ss) (vss ∷ vsss) [] is js i j bs p x y m a b c d = absurd p

  out-full : (b : Bool) (n : Text) (is : Exs) (cs : B') → FullIn (cell_ex b n is) (N cs) → FullIn (out_ex q b n is) (N cs)
  out-full true n is cs h = one-full (N cs) true (unary Op1.Not) (cell_ex true n is) h
  out-full false n is cs h = two-full (N cs) true Op2.Eq (number_ex (pos 0)) (cell_ex false n is) (number-full (N cs) (pos 0)) h

  -- That cells are out of use.
  pub zeros-full : (l : ℕ) (ss : List Shape) (vsss : List (List (List Value))) (ts : Tables) (is : Exs) (i : List ℤ) (bs : B') → Placed env0
      q q-apart ss vsss ts → There env0 q q-apart ss vsss ts i → AxesHave (Anywhere env0) ss → B.AllHave (Anywhere env0) is →
      Steady env0 q q-apart l is i bs → FullIn (zeros_ex q l ss is) (N bs)
  zeros-full l [] vsss ts is i bs p x m a c = truth-full (N bs) true
  zeros-full l (s ∷ ss) (vss ∷ vsss) (t ∷ ts) is i bs p x m a c =
      two-full (N bs) true Op2.And (zero_ex q l s is) (zeros_ex q l ss is)
      (fold-full true Fun.And _ bs (of-cells l s.truth s.name t s.axes vss is i bs _ (fit s.truth) p.0 p.1 m.0 a x.0 c
      (λ cs h. out-full s.truth s.name (row_index q l s.axes is) cs h)))
      (zeros-full l ss vsss ts is i bs p.2 x.1 m.1 a c)
  zeros-full l (s ∷ ss) [] ts is i bs p x m a c = absurd p
  zeros-full l (s ∷ ss) (vss ∷ vsss) [] is i bs p x m a c = absurd p
