-- What the test says is flat is so.
use Rattle.std.proofs.Common.{◌≡◌, refl, sym, ap, ◌∙◌, subst, Bool, true, false, if◌then◌else◌, Option, Some, None}
use Rattle.ess_semantics.specs.declared.words.Op1.{Op1}
use Rattle.ess_semantics.specs.declared.words.Op2.{Op2}
use Rattle.ess_semantics.specs.declared.words.Fun.{Fun}
use Rattle.ess_semantics.specs.Lists.{and_then}
use Rattle.ess_semantics.specs.Values.{Text}
use Rattle.ess_semantics.specs.Trees.{Ex, number_ex, truth_ex, name_ex, cell_ex, no_exs, ex1, ex2, fun1}
use Rattle.ess_flat_laws.specs.Flat.{OneOp, denied, negative, absolute, TwoOp, both, either, implied, agreeing, equal, unequal, below, at_most, above, at_least, sum, difference, product, is_choice, Flat, number, truth, named, cell, one, two, chosen, as_marked, one_mark, two_mark, chosen_mark, flat_mark}

-- ---- marks

some-is : (a b : Bool) → Some a ≡ Some b → a ≡ b
some-is a b q = cc

-- An answer behind another one: both are there.
pub record Behind {A : Type 0} (o : Option A) (f : A → Option Bool) (m : Bool) : Type 0 where
  pub value : A
  pub there : o ≡ Some value
  pub gives : f value ≡ Some m

behind : {A : Type 0} (o : Option A) (f : A → Option Bool) (m : Bool) → and_then o f ≡ Some m → Behind o f m
behind None f m q = cc
behind (Some v) f m q = record { value = v; there = refl; gives = q }

-- The marks are one.
marks-are : (b k m : Bool) → as_marked b k ≡ Some m → (b ≡ k) × (b ≡ m)
marks-are true true m q = (refl, some-is true m q)
marks-are false false m q = (refl, some-is false m q)
marks-are true false m q = cc
marks-are false true m q = cc

one-op : (o : Op1) (i k : Bool) → one_mark o i ≡ Some k → OneOp k o i
one-op Op1.Not true k q = subst (λ z. OneOp z Op1.Not true) (some-is true k q) denied
one-op Op1.Minus false k q = subst (λ z. OneOp z Op1.Minus false) (some-is false k q) negative
one-op Op1.Bar false k q = subst (λ z. OneOp z Op1.Bar false) (some-is false k q) absolute
one-op o i k q = cc

as-two : {o : Op2} {i j m k : Bool} → m ≡ k → TwoOp m o i j → TwoOp k o i j
as-two {o} {i} {j} {m} {k} q w = subst (λ z. TwoOp z o i j) q w

two-op : (i j : Bool) (o : Op2) (k : Bool) → two_mark o i j ≡ Some k → TwoOp k o i j
two-op true true Op2.And k q = as-two (some-is true k q) both
two-op true true Op2.Or k q = as-two (some-is true k q) either
two-op true true Op2.Implies k q = as-two (some-is true k q) implied
two-op true true Op2.Iff k q = as-two (some-is true k q) agreeing
two-op true true Op2.Eq k q = as-two (some-is true k q) equal
two-op true true Op2.Ne k q = as-two (some-is true k q) unequal
two-op true true Op2.Lt k q = as-two (some-is true k q) below
two-op true true Op2.Le k q = as-two (some-is true k q) at_most
two-op true true Op2.Gt k q = as-two (some-is true k q) above
two-op true true Op2.Ge k q = as-two (some-is true k q) at_least
two-op false false Op2.Eq k q = as-two (some-is true k q) equal
two-op false false Op2.Ne k q = as-two (some-is true k q) unequal
two-op false false Op2.Lt k q = as-two (some-is true k q) below
two-op false false Op2.Le k q = as-two (some-is true k q) at_most
two-op false false Op2.Gt k q = as-two (some-is true k q) above
two-op false false Op2.Ge k q = as-two (some-is true k q) at_least
two-op false false Op2.Plus k q = as-two (some-is false k q) sum
two-op false false Op2.Minus k q = as-two (some-is false k q) difference
two-op false false Op2.Times k q = as-two (some-is false k q) product
two-op i j o k q = cc

module _ (names cells : Text → Option Bool) where
  abbrev F : Ex → Bool → Type 0
  F = Flat names cells

  -- ---- nodes, from what is said of their operands

  as-cell : (b m : Bool) (a : Text) → Behind (cells a) (as_marked b) m → F (cell_ex b a no_exs) m
  as-cell b m a w =
      let e = marks-are b w.value m w.gives in
      subst (λ z. F (cell_ex b a no_exs) z) e.1 (cell (w.there ∙ ap Some (sym e.0)))

  as-one : (b k m i : Bool) (o : Op1) (x : Ex) → F x i → one_mark o i ≡ Some k → as_marked b k ≡ Some m → F (ex1 b o x) m
  as-one b k m i o x f p q =
      let e = marks-are b k m q in
      subst (λ z. F (ex1 b o x) z) e.1 (one (subst (λ z. OneOp z o i) (sym e.0) (one-op o i k p)) f)

  two-marked : (b k m i j : Bool) (o : Op2) (x y : Ex) → F x i → F y j → is_choice o x ≡ false → two_mark o i j ≡ Some k
      → as_marked b k ≡ Some m → F (ex2 b o x y) m
  two-marked b k m i j o x y f h c p q =
      let e = marks-are b k m q in
      subst (λ z. F (ex2 b o x y) z) e.1 (two (as-two (sym e.0) (two-op i j o k p)) f h c)

  chosen-marked : (b k m i : Bool) (x : Ex) → F x i → chosen_mark i ≡ Some k → as_marked b k ≡ Some m → F (fun1 b Fun.ToInt x) m
  chosen-marked true true m true x f p q = cc
  chosen-marked true false m true x f p q = cc
  chosen-marked false true m true x f p q = cc
  chosen-marked false false m true x f p q = subst (λ z. F (fun1 false Fun.ToInt x) z) (some-is false m q) (chosen f)
  chosen-marked b k m false x f p q = cc

  two-tested : (b : Bool) (o : Op2) (x y : Ex) (m : Bool) → ((i : Bool) → flat_mark names cells x ≡ Some i → F x i)
      → ((i : Bool) → flat_mark names cells y ≡ Some i → F y i) → (c : Bool) → is_choice o x ≡ c
      → (if c then None else
      and_then (and_then (flat_mark names cells x) (λ i. and_then (flat_mark names cells y) (two_mark o i))) (as_marked b)) ≡ Some m
      → F (ex2 b o x y) m
  two-tested b o x y m f h true c q = cc
  two-tested b o x y m f h false c q =
      let w = behind (and_then (flat_mark names cells x) (λ i. and_then (flat_mark names cells y) (two_mark o i))) (as_marked b) m q in
      let v = behind (flat_mark names cells x) (λ i. and_then (flat_mark names cells y) (two_mark o i)) w.value w.there in
      let u = behind (flat_mark names cells y) (two_mark o v.value) w.value v.gives in
      two-marked b w.value m v.value u.value o x y (f v.value v.there) (h u.value u.there) c u.gives w.gives

  -- ---- trees

  -- A tree with a mark is flat.
  pub tested : (e : Ex) (m : Bool) → flat_mark names cells e ≡ Some m → F e m
  tested (number_ex k) m q = subst (λ z. F (number_ex k) z) (some-is false m q) number
  tested (truth_ex b) m q = subst (λ z. F (truth_ex b) z) (some-is true m q) truth
  tested (name_ex a) m q = named q
  tested (cell_ex b a no_exs) m q = as-cell b m a (behind (cells a) (as_marked b) m q)
  tested (ex1 b o x) m q =
      let w = behind (and_then (flat_mark names cells x) (one_mark o)) (as_marked b) m q in
      let v = behind (flat_mark names cells x) (one_mark o) w.value w.there in
      as-one b w.value m v.value o x (tested x v.value v.there) v.gives w.gives
  tested (ex2 b o x y) m q = two-tested b o x y m (tested x) (tested y) (is_choice o x) refl q
  tested (fun1 b Fun.ToInt x) m q =
      let w = behind (and_then (flat_mark names cells x) chosen_mark) (as_marked b) m q in
      let v = behind (flat_mark names cells x) chosen_mark w.value w.there in
      chosen-marked b w.value m v.value x (tested x v.value v.there) v.gives w.gives
  tested e m q = cc
