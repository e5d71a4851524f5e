-- Small laws of truth values and of tests on lists.
use Rattle.std.proofs.Common.{◌≡◌, refl, sym, ap, ◌∙◌, ℕ, zero, suc, ◌+◌, ◌≤◌, ◌<◌, Bool, true, false, ◌&&◌, ◌||◌, not, ℤ, pos, Option, Some, None, arith, le_refl, eq-or-lt_of_le, ◌⊎◌, inl, inr, length}
use Rattle.std.specs.List.{list_all}
use Rattle.ess_semantics.specs.Lists.{is_some_and}
use Rattle.ess_semantics.specs.Numbers.{run_from}

pub and-left : (p q : Bool) → p && q ≡ true → p ≡ true
and-left true q e = refl
and-left false q e = e

pub and-right : (p q : Bool) → p && q ≡ true → q ≡ true
and-right true q e = e
and-right false q e = cc

pub and-both : (p q : Bool) → p ≡ true → q ≡ true → p && q ≡ true
and-both true q e f = f
and-both false q e f = e

pub or-yes : (b : Bool) → b || true ≡ true
or-yes true = refl
or-yes false = refl

pub or-left-no : (a b : Bool) → a || b ≡ false → a ≡ false
or-left-no true b e = e
or-left-no false b e = refl

pub or-right-no : (a b : Bool) → a || b ≡ false → b ≡ false
or-right-no true b e = cc
or-right-no false b e = e

-- from `not b || c`, read as an implication
pub if-so : (b c : Bool) → b ≡ true → not b || c ≡ true → c ≡ true
if-so true c e f = f
if-so false c e f = cc

pub if-not : (b c : Bool) → b ≡ false → b || c ≡ true → c ≡ true
if-not true c e f = cc
if-not false c e f = f

pub not-true : (b : Bool) → not b ≡ true → b ≡ false
not-true true e = cc
not-true false e = refl

-- two tests that imply each other
pub both-ways : (a b : Bool) → (a ≡ true → b ≡ true) → (b ≡ true → a ≡ true) → a ≡ b
both-ways true b f g = sym (f refl)
both-ways false true f g = g refl
both-ways false false f g = refl

-- what a test of an option says
pub some-and : {A : Type 0} (o : Option A) (f : A → Bool) → is_some_and o f ≡ true → (x : A) × (o ≡ Some x) × (f x ≡ true)
some-and None f e = cc
some-and (Some x) f e = (x, refl, e)

-- ---- the numbers from a on

pub all-run : (f : ℤ → Bool) (a n k : ℕ) → list_all f (run_from a n) ≡ true → a ≤ k → k < a + n → f (pos k) ≡ true
all-run f a zero k e p q = absurd (omega arith)
all-run f a (suc n) k e p q = go (eq-or-lt_of_le p) (λ h. all-run f (suc a) n k (and-right (f (pos a)) (list_all f (run_from (suc a) n)) e) h (omega arith))
  where
    go : (a ≡ k) ⊎ (a < k) → (a < k → f (pos k) ≡ true) → f (pos k) ≡ true
    go (inl h) r = ap (λ j. f (pos j)) (sym h) ∙ and-left (f (pos a)) (list_all f (run_from (suc a) n)) e
    go (inr h) r = r h

pub run-all : (f : ℤ → Bool) (a n : ℕ) → ((k : ℕ) → a ≤ k → k < a + n → f (pos k) ≡ true) → list_all f (run_from a n) ≡ true
run-all f a zero h = refl
run-all f a (suc n) h = and-both (f (pos a)) (list_all f (run_from (suc a) n)) (h a (le_refl a) (omega arith)) (run-all f (suc a) n (λ k p q. h k (omega arith) (omega arith)))

pub run-length : (a n : ℕ) → length (run_from a n) ≡ n
run-length a zero = refl
run-length a (suc n) = ap suc (run-length (suc a) n)
