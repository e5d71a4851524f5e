-- A tree with a sort is flat and total.
use Rattle.std.proofs.Common.{◌≡◌, refl, sym, ap, ◌∙◌, subst, Bool, true, false, ◌&&◌, if◌then◌else◌, Option, Some, None, option_map}
use Rattle.ess_semantics.specs.declared.words.Op1.{Op1}
use Rattle.ess_semantics.specs.declared.words.Op2.{Op2}
use Rattle.ess_semantics.specs.declared.words.Fun.{Fun}
use Rattle.ess_semantics.specs.Lists.{and_then}
use Rattle.ess_semantics.specs.Values.{Text}
use Rattle.ess_semantics.specs.Order.{same_text}
use Rattle.ess_semantics.specs.Trees.{Ex, number_ex, truth_ex, name_ex, ex1, ex2, fun1}
use Rattle.ess_semantics.proofs.Tests.{and-left, and-right}
use Rattle.ess_semantics.proofs.Texts.{same_text-equal}
use Rattle.ess_flat_laws.specs.Flat.{OneOp, denied, negative, absolute, TwoOp, both, either, implied, agreeing, equal, unequal, below, at_most, above, at_least, sum, difference, product, is_choice, compares, as_marked, one_mark, two_mark}
use Rattle.ess_named_flat_laws.specs.NamedFlat.{Sort, truths, numbers, values_of, sort_of, mark_alone, one_sort, two_sort, chosen_sort, NamedFlat, number, truth, named, one, two, alike, chosen, named_sort}

-- ---- answers that are there

some-is : {A : Type 0} (a b : A) → Some a ≡ Some b → a ≡ b
some-is a b q = cc

-- An answer behind another one: both are there.
record Behind {A B : Type 0} (o : Option A) (f : A → Option B) (m : B) : Type 0 where
  value : A
  there : o ≡ Some value
  gives : f value ≡ Some m

behind : {A B : Type 0} (o : Option A) (f : A → Option B) (m : B) → and_then o f ≡ Some m → Behind o f m
behind None f m q = cc
behind (Some v) f m q = record { value = v; there = refl; gives = q }

mapped : (o : Option Bool) (m : Sort) → option_map sort_of o ≡ Some m → (b : Bool) × (o ≡ Some b) × (sort_of b ≡ m)
mapped None m q = cc
mapped (Some b) m q = (b, refl, some-is (sort_of b) m q)

-- ---- operators

-- The marks are one.
marks-are : (b k m : Bool) → as_marked b k ≡ Some m → (b ≡ k) × (b ≡ m)
marks-are true true m q = (refl, some-is true m q)
marks-are false false m q = (refl, some-is false m q)
marks-are true false m q = cc
marks-are false true m q = cc

-- The sort of a mark alone.
alone : (m : Sort) (i : Bool) → mark_alone m ≡ Some i → m ≡ sort_of i
alone truths i q = ap sort_of (some-is true i q)
alone numbers i q = ap sort_of (some-is false i q)
alone (values_of t) i q = cc

one-op : (o : Op1) (i k : Bool) → one_mark o i ≡ Some k → OneOp k o i
one-op Op1.Not true k q = subst (λ z. OneOp z Op1.Not true) (some-is true k q) denied
one-op Op1.Minus false k q = subst (λ z. OneOp z Op1.Minus false) (some-is false k q) negative
one-op Op1.Bar false k q = subst (λ z. OneOp z Op1.Bar false) (some-is false k q) absolute
one-op o i k q = cc

as-two : {o : Op2} {i j m k : Bool} → m ≡ k → TwoOp m o i j → TwoOp k o i j
as-two {o} {i} {j} {m} {k} q w = subst (λ z. TwoOp z o i j) q w

two-op : (i j : Bool) (o : Op2) (k : Bool) → two_mark o i j ≡ Some k → TwoOp k o i j
two-op true true Op2.And k q = as-two (some-is true k q) both
two-op true true Op2.Or k q = as-two (some-is true k q) either
two-op true true Op2.Implies k q = as-two (some-is true k q) implied
two-op true true Op2.Iff k q = as-two (some-is true k q) agreeing
two-op true true Op2.Eq k q = as-two (some-is true k q) equal
two-op true true Op2.Ne k q = as-two (some-is true k q) unequal
two-op true true Op2.Lt k q = as-two (some-is true k q) below
two-op true true Op2.Le k q = as-two (some-is true k q) at_most
two-op true true Op2.Gt k q = as-two (some-is true k q) above
two-op true true Op2.Ge k q = as-two (some-is true k q) at_least
two-op false false Op2.Eq k q = as-two (some-is true k q) equal
two-op false false Op2.Ne k q = as-two (some-is true k q) unequal
two-op false false Op2.Lt k q = as-two (some-is true k q) below
two-op false false Op2.Le k q = as-two (some-is true k q) at_most
two-op false false Op2.Gt k q = as-two (some-is true k q) above
two-op false false Op2.Ge k q = as-two (some-is true k q) at_least
two-op false false Op2.Plus k q = as-two (some-is false k q) sum
two-op false false Op2.Minus k q = as-two (some-is false k q) difference
two-op false false Op2.Times k q = as-two (some-is false k q) product
two-op i j o k q = cc

module _ (names : Text → Option Sort) where
  abbrev N : Ex → Sort → Type 0
  N = NamedFlat names

  -- ---- nodes, from what is said of their operands

  one-tested : (b : Bool) (o : Op1) (x : Ex) (m s : Sort) → N x s → one_sort b o s ≡ Some m → N (ex1 b o x) m
  one-tested b o x m s f q =
      let w = behind (mark_alone s) (λ i. option_map sort_of (and_then (one_mark o i) (as_marked b))) m q in
      let u = mapped (and_then (one_mark o w.value) (as_marked b)) m w.gives in
      let v = behind (one_mark o w.value) (as_marked b) u.0 u.1 in
      let e = marks-are b v.value u.0 v.gives in
      subst (N (ex1 b o x)) (ap sort_of e.1 ∙ u.2)
      (one (subst (λ z. OneOp z o w.value) (sym e.0) (one-op o w.value v.value v.there)) (subst (N x) (alone s w.value w.there) f))

  marked-tested : (b : Bool) (o : Op2) (x y : Ex) (m : Sort) (i j : Bool) → N x (sort_of i) → N y (sort_of j) → is_choice o x ≡ false →
      option_map sort_of (and_then (two_mark o i j) (as_marked b)) ≡ Some m → N (ex2 b o x y) m
  marked-tested b o x y m i j f h c q =
      let u = mapped (and_then (two_mark o i j) (as_marked b)) m q in
      let v = behind (two_mark o i j) (as_marked b) u.0 u.1 in
      let e = marks-are b v.value u.0 v.gives in
      subst (N (ex2 b o x y)) (ap sort_of e.1 ∙ u.2) (two (as-two (sym e.0) (two-op i j o v.value v.there)) f h c)

  named-tested : (b : Bool) (o : Op2) (x y : Ex) (t u : Text) (m : Sort) → N x (values_of t) → N y (values_of u) →
      (c : Bool) → compares o && (b && same_text t u) ≡ c → (if c then Some truths else None) ≡ Some m → N (ex2 b o x y) m
  named-tested b o x y t u m f h false q r = cc
  named-tested b o x y t u m f h true q r =
      let k = and-right (compares o) (b && same_text t u) q in
      let e : t ≡ u = same_text-equal t u (and-right b (same_text t u) k) in
      subst (λ z. N (ex2 z o x y) m) (sym (and-left b (same_text t u) k))
      (subst (N (ex2 true o x y)) (some-is truths m r)
      (alike (and-left (compares o) (b && same_text t u) q) f (subst (λ z. N y (values_of z)) (sym e) h)))

  sorts-tested : (b : Bool) (o : Op2) (x y : Ex) (m s r : Sort) → N x s → N y r → is_choice o x ≡ false → two_sort b o s r ≡ Some m →
      N (ex2 b o x y) m
  sorts-tested b o x y m truths truths f h c q = marked-tested b o x y m true true f h c q
  sorts-tested b o x y m truths numbers f h c q = marked-tested b o x y m true false f h c q
  sorts-tested b o x y m truths (values_of u) f h c q = cc
  sorts-tested b o x y m numbers truths f h c q = marked-tested b o x y m false true f h c q
  sorts-tested b o x y m numbers numbers f h c q = marked-tested b o x y m false false f h c q
  sorts-tested b o x y m numbers (values_of u) f h c q = cc
  sorts-tested b o x y m (values_of t) truths f h c q = cc
  sorts-tested b o x y m (values_of t) numbers f h c q = cc
  sorts-tested b o x y m (values_of t) (values_of u) f h c q = named-tested b o x y t u m f h (compares o && (b && same_text t u)) refl q

  two-tested : (b : Bool) (o : Op2) (x y : Ex) (m : Sort) → ((i : Sort) → named_sort names x ≡ Some i → N x i) →
      ((i : Sort) → named_sort names y ≡ Some i → N y i) → (c : Bool) → is_choice o x ≡ c →
      (if c then None else and_then (named_sort names x) (λ i. and_then (named_sort names y) (λ k. two_sort b o i k))) ≡ Some m →
      N (ex2 b o x y) m
  two-tested b o x y m f h true c q = cc
  two-tested b o x y m f h false c q =
      let v = behind (named_sort names x) (λ i. and_then (named_sort names y) (λ k. two_sort b o i k)) m q in
      let u = behind (named_sort names y) (λ k. two_sort b o v.value k) m v.gives in
      sorts-tested b o x y m v.value u.value (f v.value v.there) (h u.value u.there) c u.gives

  chosen-tested : (b : Bool) (x : Ex) (m s : Sort) → N x s → chosen_sort b s ≡ Some m → N (fun1 b Fun.ToInt x) m
  chosen-tested false x m truths f q = subst (N (fun1 false Fun.ToInt x)) (some-is numbers m q) (chosen f)
  chosen-tested false x m numbers f q = cc
  chosen-tested false x m (values_of t) f q = cc
  chosen-tested true x m s f q = cc

  -- ---- trees

  -- A tree with a sort is flat and total.
  pub sort-tested : (e : Ex) (m : Sort) → named_sort names e ≡ Some m → N e m
  sort-tested (number_ex k) m q = subst (N (number_ex k)) (some-is numbers m q) number
  sort-tested (truth_ex b) m q = subst (N (truth_ex b)) (some-is truths m q) truth
  sort-tested (name_ex a) m q = named q
  sort-tested (ex1 b o x) m q =
      let w = behind (named_sort names x) (one_sort b o) m q in one-tested b o x m w.value (sort-tested x w.value w.there) w.gives
  sort-tested (ex2 b o x y) m q = two-tested b o x y m (sort-tested x) (sort-tested y) (is_choice o x) refl q
  sort-tested (fun1 b Fun.ToInt x) m q =
      let w = behind (named_sort names x) (chosen_sort b) m q in chosen-tested b x m w.value (sort-tested x w.value w.there) w.gives
  sort-tested e m q = cc
