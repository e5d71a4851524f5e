-- The dummy of a domain, and the values of slots that hold members.
use Rattle.std.proofs.Common.{eq-or-lt_of_le, true≢false, ◌≡◌, refl, sym, ap, ◌∙◌, ℕ, zero, suc, ◌+◌, ◌≤◌, ◌<◌, Bool, true, false, ◌&&◌, ◌||◌, if◌then◌else◌, [], ◌∷◌, length, filter, ℤ, pos, ◌+ℤ◌, ◌<ℤ◌, ◌≤ℤ◌, Some, option_map, int_le, int_lt, arith, le_refl, ◌⊎◌, inl, inr}
use Rattle.std.proofs.lemmas.Int.{ints}
use Rattle.std.specs.List.{list_all}
use Rattle.ess_semantics.specs.Lists.{is_none_or}
use Rattle.ess_semantics.specs.Values.{Text, Value}
use Rattle.ess_semantics.specs.Order.{same, same_int}
use Rattle.ess_semantics.specs.Collections.{holds}
use Rattle.ess_semantics.specs.Numbers.{run_from}
use Rattle.ess_semantics.specs.Domains.{Domain, Span, integers, named}
use Rattle.ess_semantics.specs.Membership.{in_span}
use Rattle.ess_semantics.specs.Tables.{is_cell}
use Rattle.ess_semantics.specs.Layers.{as_numbers}
use Rattle.ess_semantics.specs.SetLayers.{dummy_of, with_number}
use Rattle.ess_semantics.proofs.Tests.{and-right, and-both, or-yes}
use Rattle.ess_semantics.proofs.Orders.{same_int-itself, same-itself, same-equal}
use Rattle.ess_semantics.proofs.Runs.{from_to}
use Rattle.ess_repr_laws.proofs.CanonicalScalars.{Stands, integer-stands, named-stands}

-- ---- the dummy of a domain

-- m is the dummy: above each cell of a member
pub record Dummy (e : Domain) (m : ℤ) : Type 0 where
  pub is : dummy_of e ≡ Some m
  pub stands : (k : ℤ) → is_cell (with_number (Some m) (as_numbers e)) k ≡ true → same_int m k ≡ false → Stands e k
  pub under : (k : ℤ) → is_cell (with_number (Some m) (as_numbers e)) k ≡ true → k ≤ℤ m

-- The test of a number that is at most another one.
pub le-of : (a b : ℤ) → int_le a b ≡ true → a ≤ℤ b
le-of a b h = grind (arith, ints)

-- The test of a smaller number.
pub lt-of : (a b : ℤ) → int_lt a b ≡ true → a <ℤ b
lt-of a b h = grind (arith, ints)

-- one of two ranges
in-two : (p a b : Bool) → p || ((a && b) || false) ≡ true → (p ≡ true) ⊎ ((a ≡ true) × (b ≡ true))
in-two true a b h = inl refl
in-two false true true h = inr (refl, refl)
in-two false true false h = cc
in-two false false b h = cc

or-none : (p : Bool) → p ≡ true → p || false ≡ true
or-none true h = refl
or-none false h = h

-- Numbers at most one another are one.
pub both-sides : (m k : ℤ) → int_le m k ≡ true → int_le k m ≡ true → m ≡ k
both-sides m k p q = let a = le-of m k p in let b = le-of k m q in omega (arith, ints)

not-dummy : (m k : ℤ) → m ≡ k → same_int m k ≡ false → ⊥
not-dummy m k e n = let z : true ≡ false = sym (same_int-itself m) ∙ ap (same_int m) e ∙ n in true≢false z

-- one above the upper bound
pub dummy-integers : (s : Span) (b : ℤ) → s.high ≡ Some b → Dummy (integers (s ∷ [])) (b +ℤ pos 1)
dummy-integers s b q = record { is = ap (option_map (λ b. b +ℤ pos 1)) q; stands = stands'; under = under' }
  where
    m : ℤ
    m = b +ℤ pos 1

    stands' : (k : ℤ) → in_span k s || ((int_le m k && int_le k m) || false) ≡ true → same_int m k ≡ false → Stands (integers (s ∷ [])) k
    stands' k h n = go (in-two (in_span k s) (int_le m k) (int_le k m) h)
      where
        go : (in_span k s ≡ true) ⊎ ((int_le m k ≡ true) × (int_le k m ≡ true)) → Stands (integers (s ∷ [])) k
        go (inl p) = integer-stands (s ∷ []) k (or-none (in_span k s) p)
        go (inr p) = absurd (not-dummy m k (both-sides m k p.0 p.1) n)

    under' : (k : ℤ) → in_span k s || ((int_le m k && int_le k m) || false) ≡ true → k ≤ℤ m
    under' k h = go (in-two (in_span k s) (int_le m k) (int_le k m) h)
      where
        go : (in_span k s ≡ true) ⊎ ((int_le m k ≡ true) × (int_le k m ≡ true)) → k ≤ℤ m
        go (inl p) = let x = le-of k b (sym (ap (λ o. is_none_or o (λ b. int_le k b)) q) ∙ and-right (is_none_or s.low (λ a. int_le a k)) (is_none_or s.high (λ b. int_le k b)) p) in omega (arith, ints)
        go (inr p) = le-of k m p.1

-- The dummy of a named type.
pub dummy-named : (t : Text) (n : ℕ) → Dummy (named t n) (pos n +ℤ pos 1)
dummy-named t n = record { is = refl; stands = stands'; under = under' }
  where
    m : ℤ
    m = pos n +ℤ pos 1

    stands' : (k : ℤ) → (int_le (pos 1) k && int_le k (pos n)) || ((int_le m k && int_le k m) || false) ≡ true → same_int m k ≡ false → Stands (named t n) k
    stands' k h x = go (in-two (int_le (pos 1) k && int_le k (pos n)) (int_le m k) (int_le k m) h)
      where
        go : (int_le (pos 1) k && int_le k (pos n) ≡ true) ⊎ ((int_le m k ≡ true) × (int_le k m ≡ true)) → Stands (named t n) k
        go (inl p) = named-stands t n k (or-none (int_le (pos 1) k && int_le k (pos n)) p)
        go (inr p) = absurd (not-dummy m k (both-sides m k p.0 p.1) x)

    under' : (k : ℤ) → (int_le (pos 1) k && int_le k (pos n)) || ((int_le m k && int_le k m) || false) ≡ true → k ≤ℤ m
    under' k h = go (in-two (int_le (pos 1) k && int_le k (pos n)) (int_le m k) (int_le k m) h)
      where
        go : (int_le (pos 1) k && int_le k (pos n) ≡ true) ⊎ ((int_le m k ≡ true) × (int_le k m ≡ true)) → k ≤ℤ m
        go (inl p) = let x = le-of k (pos n) (and-right (int_le (pos 1) k) (int_le k (pos n)) p) in omega (arith, ints)
        go (inr p) = le-of k m p.1

-- ---- values of slots

-- Each of these values is held.
pub holds-from : (V : ℕ → Value) (a n k : ℕ) → a ≤ k → k < a + n → holds (from_to V a n) (V k) ≡ true
holds-from V a zero k p q = absurd (omega arith)
holds-from V a (suc n) k p q = go (eq-or-lt_of_le p) (λ h. holds-from V (suc a) n k h (omega arith))
  where
    go : (a ≡ k) ⊎ (a < k) → (a < k → holds (from_to V (suc a) n) (V k) ≡ true) → same (V a) (V k) || holds (from_to V (suc a) n) (V k) ≡ true
    go (inl e) ih = ap (λ b. b || holds (from_to V (suc a) n) (V k)) (ap (λ j. same (V a) (V j)) (sym e) ∙ same-itself (V a))
    go (inr l) ih = ap (λ b. same (V a) (V k) || b) (ih l) ∙ or-yes (same (V a) (V k))

-- A value that is held is one of these.
pub from-holds : (V : ℕ → Value) (a n : ℕ) (w : Value) → holds (from_to V a n) w ≡ true → (k : ℕ) × (a ≤ k) × (k < a + n) × (V k ≡ w)
from-holds V a zero w h = cc
from-holds V a (suc n) w h = go (same (V a) w) refl h (λ e. from-holds V (suc a) n w e)
  where
    go : (b : Bool) → same (V a) w ≡ b → b || holds (from_to V (suc a) n) w ≡ true → (holds (from_to V (suc a) n) w ≡ true → (k : ℕ) × (suc a ≤ k) × (k < suc a + n) × (V k ≡ w)) → (k : ℕ) × (a ≤ k) × (k < a + suc n) × (V k ≡ w)
    go true q h ih = (a, le_refl a, omega arith, same-equal (V a) w q)
    go false q h ih = let r = ih h in (r.0, (let x = r.1 in omega arith), (let x = r.2 in omega arith), r.3)

-- A test of each of these.
pub from-all : (g : Value → Bool) (V : ℕ → Value) (a n : ℕ) → ((k : ℕ) → a ≤ k → k < a + n → g (V k) ≡ true) → list_all g (from_to V a n) ≡ true
from-all g V a zero h = refl
from-all g V a (suc n) h = and-both (g (V a)) (list_all g (from_to V (suc a) n)) (h a (le_refl a) (omega arith)) (from-all g V (suc a) n (λ k p q. h k (omega arith) (omega arith)))

-- how many numbers of a run have a property that the first t have
pub filter-run : (f : ℤ → Bool) (a s t : ℕ) → t ≤ s → ((k : ℕ) → a ≤ k → k < a + t → f (pos k) ≡ true) → ((k : ℕ) → a + t ≤ k → k < a + s → f (pos k) ≡ false) → length (filter f (run_from a s)) ≡ t
filter-run f a zero zero h p q = refl
filter-run f a zero (suc t) h p q = absurd (omega arith)
filter-run f a (suc s) zero h p q = ap (λ b. length (if b then pos a ∷ filter f (run_from (suc a) s) else filter f (run_from (suc a) s))) (q a (omega arith) (omega arith)) ∙ filter-run f (suc a) s zero (omega arith) (λ k x y. absurd (omega arith)) (λ k x y. q k (omega arith) (omega arith))
filter-run f a (suc s) (suc t) h p q = ap (λ b. length (if b then pos a ∷ filter f (run_from (suc a) s) else filter f (run_from (suc a) s))) (p a (le_refl a) (omega arith)) ∙ ap suc (filter-run f (suc a) s t (omega arith) (λ k x y. p k (omega arith) (omega arith)) (λ k x y. q k (omega arith) (omega arith)))
