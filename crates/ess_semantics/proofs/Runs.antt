-- The values of a function at the numbers from a on, as a list: where they rise, each stands once.
use Rattle.std.proofs.Common.{◌≡◌, refl, sym, ap, ◌∙◌, subst, ℕ, zero, suc, ◌+◌, ◌≤◌, ◌<◌, List, [], ◌∷◌, length, arith, le_refl, eq-or-lt_of_le, ◌⊎◌, inl, inr}
use Rattle.std.specs.Cmp.{IsTotalOrder}
use Rattle.std.specs.declared.cmp.Ordering.{Ordering}
use Rattle.std.specs.declared.cmp.Ordering.TheVariants.{Less}
use Rattle.ess_semantics.proofs.Sorting.{Below, Rising, Has, not-itself}

abbrev pub from_to : {A : Type 0} → (ℕ → A) → ℕ → ℕ → List A
from_to f a zero = []
from_to f a (suc n) = f a ∷ from_to f (suc a) n

pub from-length : {A : Type 0} (f : ℕ → A) (a n : ℕ) → length (from_to f a n) ≡ n
from-length f a zero = refl
from-length f a (suc n) = ap suc (from-length f (suc a) n)

-- one list has one length, and one value at each place
pub same-at : {A : Type 0} (f g : ℕ → A) (a n m : ℕ) → from_to f a n ≡ from_to g a m → (n ≡ m) × ((k : ℕ) → a ≤ k → k < a + n → f k ≡ g k)
same-at f g a zero zero e = (refl, λ k p q. absurd (omega arith))
same-at f g a zero (suc m) e = cc
same-at f g a (suc n) zero e = cc
same-at f g a (suc n) (suc m) e =
    let h : f a ≡ g a = cc in let t : from_to f (suc a) n ≡ from_to g (suc a) m = cc in let r = same-at f g (suc a) n m t in
    (ap suc r.0, λ k p q. go k (eq-or-lt_of_le p) h (λ s. r.1 k s (omega arith)))
  where
    go : (k : ℕ) → (a ≡ k) ⊎ (a < k) → f a ≡ g a → (a < k → f k ≡ g k) → f k ≡ g k
    go k (inl e) h r = subst (λ j. f j ≡ g j) e h
    go k (inr s) h r = r s

module _ {A : Type 0} {c : A → A → Ordering} (o : IsTotalOrder c) where
  below-from : (f : ℕ → A) (x : A) (a n : ℕ) → c x (f a) ≡ Less → ((k : ℕ) → a ≤ k → k + 1 < a + n → c (f k) (f (k + 1)) ≡ Less) → Below o x (from_to f a n)
  below-from f x a zero p h = tt
  below-from f x a (suc zero) p h = (p, tt)
  below-from f x a (suc (suc n)) p h = (
    p,
    below-from f x (suc a) (suc n)
        (let s : c (f a) (f (suc a)) ≡ Less = let e : a + 1 ≡ suc a = omega arith in subst (λ j. c (f a) (f j) ≡ Less) e (h a (le_refl a) (omega arith)) in o.trans x (f a) (f (suc a)) p s)
        (λ k u v. h k (omega arith) (omega arith)),
  )

  pub sorted-from : (f : ℕ → A) (a n : ℕ) → ((k : ℕ) → a ≤ k → k + 1 < a + n → c (f k) (f (k + 1)) ≡ Less) → Rising o (from_to f a n)
  sorted-from f a zero h = tt
  sorted-from f a (suc zero) h = (tt, tt)
  sorted-from f a (suc (suc n)) h = (
    below-from f (f a) (suc a) (suc n) (let e : a + 1 ≡ suc a = omega arith in subst (λ j. c (f a) (f j) ≡ Less) e (h a (le_refl a) (omega arith))) (λ k u v. h k (omega arith) (omega arith)),
    sorted-from f (suc a) (suc n) (λ k u v. h k (omega arith) (omega arith)),
  )

  pub has-at : (f : ℕ → A) (a n k : ℕ) → a ≤ k → k < a + n → Has o (from_to f a n) (f k)
  has-at f a zero k p q = absurd (omega arith)
  has-at f a (suc n) k p q = go (eq-or-lt_of_le p) (λ h. has-at f (suc a) n k h (omega arith))
    where
      go : (a ≡ k) ⊎ (a < k) → (a < k → Has o (from_to f (suc a) n) (f k)) → (f a ≡ f k) ⊎ Has o (from_to f (suc a) n) (f k)
      go (inl h) r = inl (ap f h)
      go (inr h) r = inr (r h)

  abbrev pub Found : (ℕ → A) → ℕ → ℕ → A → Type 0
  Found f a n x = (k : ℕ) × (a ≤ k) × (k < a + n) × (f k ≡ x)

  pub found : (f : ℕ → A) (a n : ℕ) (x : A) → Has o (from_to f a n) x → Found f a n x
  found f a zero x h = absurd h
  found f a (suc n) x (inl e) = (a, le_refl a, omega arith, e)
  found f a (suc n) x (inr h) = let r = found f (suc a) n x h in (r.0, (let s = r.1 in omega arith), (let s = r.2 in omega arith), r.3)

  pub below-at : (f : ℕ → A) (x : A) (a n k : ℕ) → Below o x (from_to f a n) → a ≤ k → k < a + n → c x (f k) ≡ Less
  below-at f x a zero k b p q = absurd (omega arith)
  below-at f x a (suc n) k b p q = go (eq-or-lt_of_le p) (λ s. below-at f x (suc a) n k b.1 s (omega arith))
    where
      go : (a ≡ k) ⊎ (a < k) → (a < k → c x (f k) ≡ Less) → c x (f k) ≡ Less
      go (inl e) r = subst (λ j. c x (f j) ≡ Less) e b.0
      go (inr s) r = r s

  -- equal values of a rising function stand at one number
  pub apart-at : (f : ℕ → A) (a n : ℕ) → Rising o (from_to f a n) → (j k : ℕ) → a ≤ j → j < a + n → a ≤ k → k < a + n → f j ≡ f k → j ≡ k
  apart-at f a zero r j k p q s t e = absurd (omega arith)
  apart-at f a (suc n) r j k p q s t e = go (eq-or-lt_of_le p) (eq-or-lt_of_le s) (λ x y. apart-at f (suc a) n r.1 j k x (omega arith) y (omega arith) e)
    where
      go : (a ≡ j) ⊎ (a < j) → (a ≡ k) ⊎ (a < k) → (a < j → a < k → j ≡ k) → j ≡ k
      go (inl x) (inl y) ih = sym x ∙ y
      go (inr x) (inr y) ih = ih x y
      go (inl x) (inr y) ih = absurd (not-itself o (f a) (ap (c (f a)) (ap f x ∙ e) ∙ below-at f (f a) (suc a) n k r.0 y (omega arith)))
      go (inr x) (inl y) ih = absurd (not-itself o (f a) (ap (c (f a)) (ap f y ∙ sym e) ∙ below-at f (f a) (suc a) n j r.0 x (omega arith)))
