-- What operators make of scalars and of sets, by the test.
use Rattle.std.proofs.Common.{◌≡◌, refl, ap, subst, Bool, true, false, ◌&&◌, if◌then◌else◌, Option, Some, None, option_map}
use Rattle.ess_semantics.specs.declared.words.Op1.{Op1}
use Rattle.ess_semantics.specs.declared.words.Op2.{Op2}
use Rattle.ess_semantics.specs.Lists.{and_then}
use Rattle.ess_semantics.proofs.Tests.{and-left, and-right}
use Rattle.ess_flat_laws.specs.Flat.{OneOp, denied, negative, absolute, TwoOp, both, either, implied, agreeing, equal, unequal, below, at_most, above, at_least, sum, difference, product, as_marked, one_mark, two_mark}
use Rattle.ess_seen_laws.specs.Seen.{Kind, scalars, sets_of, Combines, united, shared, lessened, Compares, alike, apart, included, properly_included, including, properly_including}
use Rattle.ess_setwise_laws.specs.Setwise.{one_kind, two_kind, same_kind, combines, compares_sets}

-- ---- answers

-- An answer behind another one: both are there.
pub record Behind {A B : Type 0} (o : Option A) (f : A → Option B) (m : B) : Type 0 where
  pub value : A
  pub there : o ≡ Some value
  pub gives : f value ≡ Some m

-- It is so where the whole is an answer.
pub behind : {A B : Type 0} (o : Option A) (f : A → Option B) (m : B) → and_then o f ≡ Some m → Behind o f m
behind None f m q = cc
behind (Some v) f m q = record { value = v; there = refl; gives = q }

-- The kind of a marked answer.
pub record Marked (o : Option Bool) (i : Kind) : Type 0 where
  pub mark : Bool
  pub there : o ≡ Some mark
  pub is : scalars mark ≡ i

-- It has a mark.
pub marked : (o : Option Bool) (i : Kind) → option_map scalars o ≡ Some i → Marked o i
marked None i q = cc
marked (Some m) i q = record { mark = m; there = refl; is = cc }

-- The marks are one.
pub marks-are : (b k m : Bool) → as_marked b k ≡ Some m → (b ≡ m) × (k ≡ m)
marks-are true true true q = (refl, refl)
marks-are false false false q = (refl, refl)
marks-are true true false q = cc
marks-are false false true q = cc
marks-are true false m q = cc
marks-are false true m q = cc

-- Where a test decides, it holds.
pub decided : {A : Type 0} (b : Bool) (o : Option A) (m : A) → (if b then o else None) ≡ Some m → (b ≡ true) × (o ≡ Some m)
decided true o m q = (refl, q)
decided false o m q = cc

-- ---- operators

-- An operator on one scalar has its mark.
pub one-scalar : (o : Op1) (m : Bool) → one_kind o (scalars m) ≡ one_mark o m
one-scalar Op1.Not m = refl
one-scalar Op1.Minus m = refl
one-scalar Op1.Bar m = refl

-- A mark of an operator on one scalar is one.
pub one-op : (o : Op1) (i k : Bool) → one_mark o i ≡ Some k → OneOp k o i
one-op Op1.Not true true q = denied
one-op Op1.Minus false false q = negative
one-op Op1.Bar false false q = absolute
one-op o i k q = cc

-- What two scalars make is marked.
pub two-scalars : (b : Bool) (o : Op2) (i j : Bool) → two_kind b o (scalars i) (scalars j)
    ≡ option_map scalars (and_then (two_mark o i j) (as_marked b))
two-scalars b o i j = refl

-- A mark of an operator on two scalars is one.
pub two-op : (i j : Bool) (o : Op2) (k : Bool) → two_mark o i j ≡ Some k → TwoOp k o i j
two-op true true Op2.And true q = both
two-op true true Op2.Or true q = either
two-op true true Op2.Implies true q = implied
two-op true true Op2.Iff true q = agreeing
two-op true true Op2.Eq true q = equal
two-op true true Op2.Ne true q = unequal
two-op true true Op2.Lt true q = below
two-op true true Op2.Le true q = at_most
two-op true true Op2.Gt true q = above
two-op true true Op2.Ge true q = at_least
two-op false false Op2.Eq true q = equal
two-op false false Op2.Ne true q = unequal
two-op false false Op2.Lt true q = below
two-op false false Op2.Le true q = at_most
two-op false false Op2.Gt true q = above
two-op false false Op2.Ge true q = at_least
two-op false false Op2.Plus false q = sum
two-op false false Op2.Minus false q = difference
two-op false false Op2.Times false q = product
two-op i j o k q = cc

-- Kinds that are the same are one.
same-kind : (i k : Kind) → same_kind i k ≡ true → i ≡ k
same-kind (scalars true) (scalars true) q = refl
same-kind (scalars false) (scalars false) q = refl
same-kind (sets_of i) (sets_of k) q = ap sets_of (same-kind i k q)
same-kind i k q = cc

compares-is : (o : Op2) → compares_sets o ≡ true → Compares o
compares-is Op2.Eq q = alike
compares-is Op2.Ne q = apart
compares-is Op2.SubsetEq q = included
compares-is Op2.Subset q = properly_included
compares-is Op2.SupsetEq q = including
compares-is Op2.Supset q = properly_including
compares-is o q = cc

combines-is : (o : Op2) → combines o ≡ true → Combines o
combines-is Op2.Union q = united
combines-is Op2.Intersect q = shared
combines-is Op2.Minus q = lessened
combines-is o q = cc

-- An operator whose right operand is a set with members of the kind j, and what it makes.
pub data SetOp : Bool → Op2 → Kind → Kind → Kind → Type 0 where
  a_member : {j : Kind} → SetOp true Op2.Member j j (scalars true)
  a_comparison : {o : Op2} {j : Kind} → Compares o → SetOp true o (sets_of j) j (scalars true)
  a_combination : {o : Op2} {j : Kind} → Combines o → SetOp false o (sets_of j) j (sets_of j)

member-op : (i j k : Kind) → (if same_kind i j then Some (scalars true) else None) ≡ Some k → SetOp true Op2.Member i j k
member-op i j k q =
    let w = decided (same_kind i j) (Some (scalars true)) k q in
    let z : scalars true ≡ k = let p = w.1 in cc in
    subst (SetOp true Op2.Member i j) z (subst (λ l. SetOp true Op2.Member i l (scalars true)) (same-kind i j w.0) a_member)

comparison-op : (o : Op2) (i j k : Kind) → (if compares_sets o && same_kind i j then Some (scalars true) else None) ≡ Some k →
    SetOp true o (sets_of i) j k
comparison-op o i j k q =
    let w = decided (compares_sets o && same_kind i j) (Some (scalars true)) k q in
    let z : scalars true ≡ k = let p = w.1 in cc in
    subst (SetOp true o (sets_of i) j) z
    (subst (λ l. SetOp true o (sets_of i) l (scalars true)) (same-kind i j (and-right (compares_sets o) (same_kind i j) w.0))
    (a_comparison (compares-is o (and-left (compares_sets o) (same_kind i j) w.0))))

combination-op : (o : Op2) (i j k : Kind) → (if combines o && same_kind i j then Some (sets_of i) else None) ≡ Some k →
    SetOp false o (sets_of i) j k
combination-op o i j k q =
    let w = decided (combines o && same_kind i j) (Some (sets_of i)) k q in
    let z : sets_of i ≡ k = let p = w.1 in cc in
    subst (SetOp false o (sets_of i) j) z
    (subst (λ l. SetOp false o (sets_of i) l (sets_of i)) (same-kind i j (and-right (combines o) (same_kind i j) w.0))
    (a_combination (combines-is o (and-left (combines o) (same_kind i j) w.0))))

-- An operator with such a kind is one.
pub set-op : (b : Bool) (o : Op2) (i j k : Kind) → two_kind b o i (sets_of j) ≡ Some k → SetOp b o i j k
set-op true Op2.Member (scalars m) j k q = member-op (scalars m) j k q
set-op true Op2.Member (sets_of i) j k q = member-op (sets_of i) j k q
set-op true o (sets_of i) j k q = comparison-op o i j k q
set-op false o (sets_of i) j k q = combination-op o i j k q
set-op true o (scalars m) j k q = cc
set-op false o (scalars m) j k q = cc

-- There is none on a set and a scalar.
pub no-set-first : (b : Bool) (o : Op2) (i : Kind) (m : Bool) (k : Kind) → two_kind b o (sets_of i) (scalars m) ≡ Some k → ⊥
no-set-first true Op2.Member i m k q = cc
no-set-first true o i m k q = cc
no-set-first false o i m k q = cc
