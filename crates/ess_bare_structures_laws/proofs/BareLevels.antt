-- Rows and slots of structures are bare and in scope: q l, q (l + 1) and so on are the names that they bind, behind those before q l.
use Rattle.std.proofs.Common.{◌≡◌, refl, ap, ◌∙◌, ℕ, suc, ◌+◌, ◌≤◌, ◌<◌, Bool, true, false, ◌||◌, List, [], ◌∷◌, pos, Option, Some, if◌then◌else◌, arith}
use Rattle.ess_semantics.specs.declared.words.Op1.{Op1}
use Rattle.ess_semantics.specs.Values.{Text}
use Rattle.ess_semantics.specs.Order.{same_text}
use Rattle.ess_semantics.specs.Names.{Names, look}
use Rattle.ess_semantics.specs.Trees.{name_pat, Ex, Exs, name_ex, cell_ex, no_exs, no_gens, over, cond, Dom, ex1}
use Rattle.ess_semantics.specs.Contexts.{Each}
use Rattle.ess_semantics.specs.Meaning.{is_bool_dom}
use Rattle.ess_semantics.proofs.Texts.{same_text-either, same_text-itself}
use Rattle.ess_repr_laws.specs.StructureParts.{Shape, add_ex, level_behind, row_gens, row_index, each_ex, row_ex, less_ex, out_ex, zeros_ex, over_slots, next_ex, pairs_dom, over_pairs, each_pair, slots_ex, use_ex, first_ex, true_count_ex, upto, implies_ex, le_ex}
use Rattle.conjure_model_laws.specs.Printed.{binders, binders_of_dom}
use Rattle.ess_bare_laws.specs.Bare.{before, not_behind}
use Rattle.ess_bare_structures_laws.proofs.BareParts as P
use Rattle.ess_bare_structures_laws.proofs.BareParts.{known, number-fine, truth-fine, name-fine, cell-fine, and-fine, or-fine, implies-fine, le-fine, eq-fine, not-fine, plus-fine, minus-fine, chosen-fine, upto-fine, end-fine, through-fine, where-fine, none-fine, along-fine, axes-fine, all-fine, sum-fine, row-fine, lex-fine, no-index-fine, add-fine}

both-no : (b c : Bool) → b ≡ false → c ≡ false → b || c ≡ false
both-no true c h k = cc
both-no false c h k = k

module _ (cells : Text → Option (Bool × ℕ)) (q : ℕ → Text) (apart : (m l : ℕ) → l < m → same_text (q m) (q l) ≡ false) where
  abbrev pub Fine : Names Bool → Ex → Bool → Type 0
  Fine = P.Fine cells

  -- ---- levels

  -- No name from q l on is bound.
  abbrev pub Under : ℕ → Names Bool → Type 0
  Under l r = (j : ℕ) → l ≤ j → known r (q j) ≡ false

  -- The names before q l have the marks that they had.
  abbrev pub Grows : ℕ → Names Bool → Names Bool → Type 0
  Grows l r t = (j : ℕ) → j < l → look t (q j) ≡ look r (q j)

  pub under-next : (l : ℕ) (r : Names Bool) (m : Bool) → Under l r → Under (suc l) ((q l, m) ∷ r)
  under-next l r m u j h =
      both-no (known r (q j)) (same_text (q l) (q j)) (u j (omega (arith, h)))
      (same_text-either (q l) (q j) ∙ apart j l (omega (arith, h)))

  pub grows-next : (l : ℕ) (r : Names Bool) (m : Bool) → Grows l r ((q l, m) ∷ r)
  grows-next l r m j h = ap (λ b. if b then Some m else look r (q j)) (apart l j h)

  grows-on : (l : ℕ) (r s t : Names Bool) → Grows l r s → Grows l s t → Grows l r t
  grows-on l r s t g h j k = h j k ∙ g j k

  grows-low : (l k : ℕ) (r t : Names Bool) → l ≤ k → Grows k r t → Grows l r t
  grows-low l k r t h g j i = g j (omega (arith, h, i))

  look-next : (l : ℕ) (r : Names Bool) (m : Bool) → look ((q l, m) ∷ r) (q l) ≡ Some m
  look-next l r m = ap (λ b. if b then Some m else look r (q l)) (same_text-itself (q l))

  -- ---- what is bare at a level, and under further names

  -- An index list is so of names before q l.
  pub record Held (l : ℕ) (r : Names Bool) (is : Exs) (k : ℕ) : Type 0 where
    pub at : (t : Names Bool) → Grows l r t → P.FineIndex cells t is k

  -- A number is.
  pub record Stays (l : ℕ) (r : Names Bool) (e : Ex) (m : Bool) : Type 0 where
    pub at : (t : Names Bool) → Grows l r t → Fine t e m

  -- A number is so wherever it stands: no name is in it, and none is bound.
  pub record Size (e : Ex) : Type 0 where
    pub at : (t : Names Bool) → Fine t e false
    pub few : binders e ≡ 0

  itself-grows : (l : ℕ) (r : Names Bool) → Grows l r r
  itself-grows l r j h = refl

  pub held-here : {l : ℕ} {r : Names Bool} {is : Exs} {k : ℕ} → Held l r is k → P.FineIndex cells r is k
  held-here {l} {r} h = h.at r (itself-grows l r)

  pub stays-here : {l : ℕ} {r : Names Bool} {e : Ex} {m : Bool} → Stays l r e m → Fine r e m
  stays-here {l} {r} h = h.at r (itself-grows l r)

  pub held-none : (l : ℕ) (r : Names Bool) → Held l r no_exs 0
  held-none l r = record { at = λ t g. no-index-fine cells t }

  pub held-later : {l : ℕ} {r : Names Bool} {is : Exs} {k : ℕ} (m : Bool) → Held l r is k → Held (suc l) ((q l, m) ∷ r) is k
  held-later {l} {r} m h = record {
    at = λ t g. h.at t (grows-on l r ((q l, m) ∷ r) t (grows-next l r m) (grows-low l (suc l) ((q l, m) ∷ r) t (omega arith) g));
  }

  pub stays-later : {l : ℕ} {r : Names Bool} {e : Ex} {k : Bool} (m : Bool) → Stays l r e k → Stays (suc l) ((q l, m) ∷ r) e k
  stays-later {l} {r} m h = record {
    at = λ t g. h.at t (grows-on l r ((q l, m) ∷ r) t (grows-next l r m) (grows-low l (suc l) ((q l, m) ∷ r) t (omega arith) g));
  }

  pub stays-size : {e : Ex} (l : ℕ) (r : Names Bool) → Size e → Stays l r e false
  stays-size l r s = record { at = λ t g. s.at t }

  name-at : (l : ℕ) (r t : Names Bool) (m : Bool) → Grows (suc l) ((q l, m) ∷ r) t → Fine t (name_ex (q l)) m
  name-at l r t m g = name-fine cells t (q l) m (g l (omega arith) ∙ look-next l r m)

  -- One more name, and the number behind it.
  pub held-name : {l : ℕ} {r : Names Bool} {is : Exs} {k : ℕ} (m : Bool) → Held l r is k →
      Held (suc l) ((q l, m) ∷ r) (add_ex is (name_ex (q l))) (suc k)
  held-name {l} {r} m h =
      let i = held-later m h in record { at = λ t g. add-fine cells (i.at t g) (name-at l r t m g) }

  next-at : (l : ℕ) (r t : Names Bool) → Grows (suc l) ((q l, false) ∷ r) t → Fine t (next_ex q l) false
  next-at l r t g = plus-fine cells (name-at l r t false g) (number-fine cells t (pos 1))

  pub held-next : {l : ℕ} {r : Names Bool} {is : Exs} {k : ℕ} → Held l r is k →
      Held (suc l) ((q l, false) ∷ r) (add_ex is (next_ex q l)) (suc k)
  held-next {l} {r} h =
      let i = held-later false h in record { at = λ t g. add-fine cells (i.at t g) (next-at l r t g) }

  pub name-here : (l : ℕ) (r : Names Bool) (m : Bool) → Fine ((q l, m) ∷ r) (name_ex (q l)) m
  name-here l r m = name-at l r ((q l, m) ∷ r) m (itself-grows (suc l) ((q l, m) ∷ r))

  pub next-here : (l : ℕ) (r : Names Bool) → Fine ((q l, false) ∷ r) (next_ex q l) false
  next-here l r = next-at l r ((q l, false) ∷ r) (itself-grows (suc l) ((q l, false) ∷ r))

  -- ---- rows

  -- An axis is bare wherever it stands: no name is in it, and none is bound.
  pub record Axis (a : Dom) : Type 0 where
    pub at : (r : Names Bool) → P.FineDom cells r a (is_bool_dom a)
    pub few : binders_of_dom a ≡ 0

  abbrev pub AreAxes : List Dom → Type 0
  AreAxes as' = Each as' Axis

  -- Names behind those of axes, and the number of indices.
  abbrev pub names_behind : ℕ → List Dom → Names Bool → Names Bool
  names_behind l [] r = r
  names_behind l (a ∷ as') r = names_behind (suc l) as' ((q l, is_bool_dom a) ∷ r)

  abbrev pub indices_behind : ℕ → List Dom → ℕ
  indices_behind k [] = k
  indices_behind k (a ∷ as') = indices_behind (suc k) as'

  pub row-axes : (as' : List Dom) (l : ℕ) (r : Names Bool) → AreAxes as' → Under l r →
      P.FineAxes cells r (row_gens q l as') (names_behind l as' r)
  row-axes [] l r x u = none-fine cells r
  row-axes (a ∷ as') l r x u =
      let y : Axis a = x.0 in
      along-fine cells (u l (omega arith)) (y.at r)
      (row-axes as' (suc l) ((q l, is_bool_dom a) ∷ r) x.1 (under-next l r (is_bool_dom a) u))

  pub row-held : (as' : List Dom) (l : ℕ) (r : Names Bool) (is : Exs) (k : ℕ) → Held l r is k →
      Held (level_behind l as') (names_behind l as' r) (row_index q l as' is) (indices_behind k as')
  row-held [] l r is k h = h
  row-held (a ∷ as') l r is k h =
      row-held as' (suc l) ((q l, is_bool_dom a) ∷ r) (add_ex is (name_ex (q l))) (suc k) (held-name (is_bool_dom a) h)

  -- A table has so many axes behind k indices, and its axes are bare.
  pub record ShapeFine (k : ℕ) (s : Shape) : Type 0 where
    pub marked : cells s.name ≡ Some (s.truth, indices_behind k s.axes)
    pub axes : AreAxes s.axes

  abbrev pub ShapesFine : ℕ → List Shape → Type 0
  ShapesFine k ss = Each ss (ShapeFine k)

  -- A table's cell at the names of its axes.
  axis-cell : (k l : ℕ) (r : Names Bool) (s : Shape) (is : Exs) → ShapeFine k s → Held l r is k →
      Fine (names_behind l s.axes r) (cell_ex s.truth s.name (row_index q l s.axes is)) s.truth
  axis-cell k l r s is x h =
      cell-fine cells (names_behind l s.axes r) s.truth s.name (row_index q l s.axes is) (indices_behind k s.axes) x.marked
      (held-here (row-held s.axes l r is k h))

  row-is : (k l : ℕ) (r : Names Bool) (s : Shape) (is : Exs) → ShapeFine k s → Under l r → Held l r is k →
      P.FineRow cells r (row_ex q l s is) s.truth
  row-is k l r s is x u h = row-fine cells (row-axes s.axes l r x.axes u) (axis-cell k l r s is x h)

  -- Cells at one index list are below those at another one.
  pub less-fine : (ss : List Shape) (k l : ℕ) (r : Names Bool) (is js : Exs) → ShapesFine k ss → Under l r → Held l r is k → Held l r js k →
      Fine r (less_ex q l ss is js) true
  less-fine [] k l r is js x u h i = truth-fine cells r false
  less-fine (s ∷ ss) k l r is js x u h i =
      or-fine cells (lex-fine cells before (row-is k l r s is x.0 u h) (row-is k l r s js x.0 u i))
      (and-fine cells (lex-fine cells not_behind (row-is k l r s is x.0 u h) (row-is k l r s js x.0 u i))
      (less-fine ss k l r is js x.1 u h i))

  out-fine : (r : Names Bool) (b : Bool) (n : Text) (is : Exs) → Fine r (cell_ex b n is) b → Fine r (out_ex q b n is) true
  out-fine r true n is h = not-fine cells h
  out-fine r false n is h = eq-fine cells (number-fine cells r (pos 0)) h

  -- All cells are 0 or false.
  pub zeros-fine : (ss : List Shape) (k l : ℕ) (r : Names Bool) (is : Exs) → ShapesFine k ss → Under l r → Held l r is k →
      Fine r (zeros_ex q l ss is) true
  zeros-fine [] k l r is x u h = truth-fine cells r true
  zeros-fine (s ∷ ss) k l r is x u h =
      let y : ShapeFine k s = x.0 in
      and-fine cells (all-fine cells (axes-fine cells (row-axes s.axes l r y.axes u))
      (out-fine (names_behind l s.axes r) s.truth s.name (row_index q l s.axes is) (axis-cell k l r s is y h)))
      (zeros-fine ss k l r is x.1 u h)

  -- ---- slots

  -- From 1 to a size.
  pub upto-axis : {n : Ex} → Size n → Axis (upto n)
  upto-axis {n} s =
      let z : 0 + (binders n + 0) ≡ 0 = omega (arith, s.few) in record { at = λ r. upto-fine cells (s.at r); few = z }

  pub pairs-axis : {n : Ex} → Size n → Axis (pairs_dom q n)
  pairs-axis {n} s =
      let z : 0 + ((binders n + (0 + 0)) + 0) ≡ 0 = omega (arith, s.few) in
      record { at = λ r. upto-fine cells (minus-fine cells (s.at r) (number-fine cells r (pos 1))); few = z }

  slots-of : (l : ℕ) (r : Names Bool) (d : Dom) (test e : Ex) → P.FineDom cells r d false → Under l r → Fine ((q l, false) ∷ r) test true →
      Fine ((q l, false) ∷ r) e true → P.FineGens cells r (over (name_pat (q l)) d (cond test no_gens)) ((q l, false) ∷ r)
  slots-of l r d test e x u t h =
      through-fine cells (u l (omega arith)) x (where-fine cells t (end-fine cells ((q l, false) ∷ r)))

  pub over-slots-fine : (l : ℕ) (r : Names Bool) (size test e : Ex) → Size size → Under l r → Fine ((q l, false) ∷ r) test true →
      Fine ((q l, false) ∷ r) e true → Fine r (over_slots q l size test e) true
  over-slots-fine l r size test e s u t h =
      let x = upto-axis s in all-fine cells (slots-of l r (upto size) test e (x.at r) u t h) h

  over-pairs-fine : (l : ℕ) (r : Names Bool) (size test e : Ex) → Size size → Under l r → Fine ((q l, false) ∷ r) test true →
      Fine ((q l, false) ∷ r) e true → Fine r (over_pairs q l size test e) true
  over-pairs-fine l r size test e s u t h =
      let x = pairs-axis s in all-fine cells (slots-of l r (pairs_dom q size) test e (x.at r) u t h) h

  pub each-slot-fine : (l : ℕ) (r : Names Bool) (size e : Ex) → Size size → Under l r → Fine ((q l, false) ∷ r) e true →
      Fine r (each_ex q l (upto size ∷ []) e) true
  each-slot-fine l r size e s u h = all-fine cells (axes-fine cells (row-axes (upto size ∷ []) l r (upto-axis s, tt) u)) h

  pub each-pair-fine : (l : ℕ) (r : Names Bool) (size e : Ex) → Size size → Under l r → Fine ((q l, false) ∷ r) e true →
      Fine r (each_pair q l size e) true
  each-pair-fine l r size e s u h = all-fine cells (axes-fine cells (row-axes (pairs_dom q size ∷ []) l r (pairs-axis s, tt) u)) h

  rise-fine : (l k : ℕ) (r : Names Bool) (ss : List Shape) (is : Exs) → ShapesFine (suc k) ss → Under l r → Held l r is k →
      Fine ((q l, false) ∷ r) (less_ex q (suc l) ss (add_ex is (name_ex (q l))) (add_ex is (next_ex q l))) true
  rise-fine l k r ss is x u h =
      less-fine ss (suc k) (suc l) ((q l, false) ∷ r) (add_ex is (name_ex (q l))) (add_ex is (next_ex q l)) x (under-next l r false u)
      (held-name false h) (held-next h)

  unused-fine : (l k : ℕ) (r : Names Bool) (ss : List Shape) (is : Exs) → ShapesFine (suc k) ss → Under l r → Held l r is k →
      Fine ((q l, false) ∷ r) (zeros_ex q (suc l) ss (add_ex is (name_ex (q l)))) true
  unused-fine l k r ss is x u h =
      zeros-fine ss (suc k) (suc l) ((q l, false) ∷ r) (add_ex is (name_ex (q l))) x (under-next l r false u) (held-name false h)

  -- The first m slots are in use and rise, each holds what part says, and all others hold 0 or false.
  pub slots-fine : (l k : ℕ) (r : Names Bool) (size m : Ex) (ss : List Shape) (is : Exs) (part : Ex) → Size size → Stays l r m false →
      ShapesFine (suc k) ss → Under l r → Held l r is k → Fine ((q l, false) ∷ r) part true → Fine r (slots_ex q l size m ss is part) true
  slots-fine l k r size m ss is part s n x u h p =
      let j : Fine ((q l, false) ∷ r) m false = stays-here (stays-later false n) in
      let t : Fine ((q l, false) ∷ r) (le_ex (name_ex (q l)) m) true = le-fine cells (name-here l r false) j in
      and-fine cells (over-slots-fine l r size (le_ex (name_ex (q l)) m) part s u t p)
      (and-fine cells
      (over-pairs-fine l r size (le_ex (next_ex q l) m) _ s u (le-fine cells (next-here l r) j) (rise-fine l k r ss is x u h))
      (over-slots-fine l r size (ex1 true Op1.Not (le_ex (name_ex (q l)) m)) _ s u (not-fine cells t) (unused-fine l k r ss is x u h)))

  -- The same where flags say which slots are in use.
  pub flagged-fine : (l k : ℕ) (r : Names Bool) (size here next : Ex) (ss : List Shape) (is : Exs) (part : Ex) → Size size →
      ShapesFine (suc k) ss → Under l r → Held l r is k → Fine ((q l, false) ∷ r) here true → Fine ((q l, false) ∷ r) next true →
      Fine ((q l, false) ∷ r) part true →
      Fine r (use_ex q l size here next (less_ex q (suc l) ss (add_ex is (name_ex (q l))) (add_ex is (next_ex q l))) ss is part) true
  flagged-fine l k r size here next ss is part s x u h a b p =
      and-fine cells (over-slots-fine l r size here part s u a p)
      (and-fine cells (each-pair-fine l r size _ s u (implies-fine cells b (rise-fine l k r ss is x u h)))
      (over-slots-fine l r size (ex1 true Op1.Not here) _ s u (not-fine cells a) (unused-fine l k r ss is x u h)))

  pub first-fine : (l : ℕ) (r : Names Bool) (size here next : Ex) → Size size → Under l r → Fine ((q l, false) ∷ r) here true →
      Fine ((q l, false) ∷ r) next true → Fine r (first_ex q l size here next) true
  first-fine l r size here next s u a b = each-pair-fine l r size (implies_ex next here) s u (implies-fine cells b a)

  -- How many cells of a table are true.
  pub true-count-fine : (l k : ℕ) (r : Names Bool) (as' : List Dom) (n : Text) (is : Exs) → cells n ≡ Some (true, indices_behind k as') →
      AreAxes as' → Under l r → Held l r is k → Fine r (true_count_ex q l as' n is) false
  true-count-fine l k r as' n is m x u h =
      sum-fine cells (row-axes as' l r x u)
      (chosen-fine cells (cell-fine cells (names_behind l as' r) true n (row_index q l as' is) (indices_behind k as') m
      (held-here (row-held as' l r is k h))))
