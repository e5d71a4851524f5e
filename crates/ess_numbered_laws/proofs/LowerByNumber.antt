-- A list is lower than another one by the first number at which their items differ, or by how many there are.
use Rattle.std.proofs.Common.{◌≡◌, refl, sym, ap, ◌∙◌, ℕ, zero, suc, Bool, true, false, ◌&&◌, ◌||◌, not, List, [], ◌∷◌, length, Option, Some, None, arith}
use Rattle.std.specs.Prelude.{nat_lt, nat_le}
use Rattle.std.proofs.Math.Dec.{leb-suc-suc, leb-suc-zero}
use Rattle.std.proofs.lemmas.Bool.{le-leb}
use Rattle.std.specs.Ordering.{ordering_then, ordering_reverse, is_eq, is_lt}
use Rattle.std.specs.declared.cmp.Ordering.{Ordering}
use Rattle.std.specs.declared.cmp.Ordering.TheVariants.{Less, Equal, Greater}
use Rattle.ess_semantics.specs.Values.{Value, of_list}
use Rattle.ess_semantics.specs.Order.{order, orders, same, below}
use Rattle.ess_semantics.specs.Operators.{component, implies}
use Rattle.ess_semantics.proofs.Orders.{order_total}
use Rattle.ess_numbered_laws.specs.OrderLaws.{at_some, at_each, both_have, at_both, lower_at_some, is_prefix, fewer, is_lower, LowerByNumber}

-- ---- tests of numbers

le-zero : (n : ℕ) → nat_le zero n ≡ true
le-zero n = le-leb zero n (omega arith)

lt-suc : (m n : ℕ) → nat_lt (suc m) (suc n) ≡ nat_lt m n
lt-suc m n = leb-suc-suc (suc m) n

lt-zero : (m : ℕ) → nat_lt m zero ≡ false
lt-zero m = leb-suc-zero m

zero-lt : (n : ℕ) → nat_lt zero (suc n) ≡ true
zero-lt n = leb-suc-suc zero n ∙ le-zero n

-- ---- one number after the other

-- From the next number on.
pub some-shift : (f : ℕ → Bool) (k n : ℕ) → at_some f (suc k) n ≡ at_some (λ j. f (suc j)) k n
some-shift f k zero = refl
some-shift f k (suc n) = ap (λ b. f (suc k) || b) (some-shift f (suc k) n)

-- The same of each number.
pub each-shift : (f : ℕ → Bool) (k n : ℕ) → at_each f (suc k) n ≡ at_each (λ j. f (suc j)) k n
each-shift f k zero = refl
each-shift f k (suc n) = ap (λ b. f (suc k) && b) (each-shift f (suc k) n)

-- Tests that agree on numbers from 1 on.
pub some-agree : (f g : ℕ → Bool) → ((j : ℕ) → f (suc j) ≡ g (suc j)) → (k n : ℕ) → at_some f (suc k) n ≡ at_some g (suc k) n
some-agree f g h k zero = refl
some-agree f g h k (suc n) = ap (λ b. b || at_some f (suc (suc k)) n) (h k) ∙ ap (λ b. g (suc k) || b) (some-agree f g h (suc k) n)

-- The same of each number.
pub each-agree : (f g : ℕ → Bool) → ((j : ℕ) → f (suc j) ≡ g (suc j)) → (k n : ℕ) → at_each f (suc k) n ≡ at_each g (suc k) n
each-agree f g h k zero = refl
each-agree f g h k (suc n) = ap (λ b. b && at_each f (suc (suc k)) n) (h k) ∙ ap (λ b. g (suc k) && b) (each-agree f g h (suc k) n)

-- A test that no number passes.
some-never : (f : ℕ → Bool) → ((j : ℕ) → f (suc j) ≡ false) → (k n : ℕ) → at_some f (suc k) n ≡ false
some-never f h k zero = refl
some-never f h k (suc n) = ap (λ b. b || at_some f (suc (suc k)) n) (h k) ∙ some-never f h (suc k) n

-- A test that each one passes.
each-sure : (f : ℕ → Bool) → ((j : ℕ) → f (suc j) ≡ true) → (k n : ℕ) → at_each f (suc k) n ≡ true
each-sure f h k zero = refl
each-sure f h k (suc n) = ap (λ b. b && at_each f (suc (suc k)) n) (h k) ∙ each-sure f h (suc k) n

-- A test of no number, taken out.
some-factor : (s : Bool) (f g : ℕ → Bool) (k n : ℕ) → at_some (λ j. f j && (s && g j)) k n ≡ s && at_some (λ j. f j && g j) k n
some-factor s f g k zero = go s
  where
    go : (s : Bool) → false ≡ s && false
    go true = refl
    go false = refl
some-factor s f g k (suc n) = ap (λ b. (f k && (s && g k)) || b) (some-factor s f g (suc k) n)
    ∙ go s (f k) (g k) (at_some (λ j. f j && g j) (suc k) n)
  where
    go : (s a c r : Bool) → (a && (s && c)) || (s && r) ≡ s && ((a && c) || r)
    go true a c r = refl
    go false true c r = refl
    go false false c r = refl

-- ---- the order of lists

-- The order of lists, item by item.
abbrev low : Bool → List Value → List Value → Bool
low o [] [] = o
low o [] (y ∷ ys) = true
low o (x ∷ xs) [] = false
low o (x ∷ xs) (y ∷ ys) = below x y || (same x y && low o xs ys)

then-lower : (o p : Ordering) → is_lt (ordering_then o p) ≡ is_lt o || (is_eq o && is_lt p)
then-lower Less p = refl
then-lower Equal p = refl
then-lower Greater p = refl

then-no-higher : (o p : Ordering) → not (is_lt (ordering_then (ordering_reverse o) p)) ≡ is_lt o || (is_eq o && not (is_lt p))
then-no-higher Less p = refl
then-no-higher Equal p = refl
then-no-higher Greater p = refl

is-low : (o : Bool) (xs ys : List Value) → is_lower o xs ys ≡ low o xs ys
is-low false [] [] = refl
is-low false [] (y ∷ ys) = refl
is-low false (x ∷ xs) [] = refl
is-low false (x ∷ xs) (y ∷ ys) = then-lower (order x y) (orders (of_list xs) (of_list ys))
    ∙ ap (λ b. below x y || (same x y && b)) (is-low false xs ys)
is-low true [] [] = refl
is-low true [] (y ∷ ys) = refl
is-low true (x ∷ xs) [] = refl
is-low true (x ∷ xs) (y ∷ ys) =
    ap (λ o. not (is_lt (ordering_then o (orders (of_list ys) (of_list xs))))) (order_total.antisymm y x)
    ∙ then-no-higher (order x y) (orders (of_list ys) (of_list xs))
    ∙ ap (λ b. below x y || (same x y && b)) (is-low true xs ys)

-- ---- one item more

fewer-suc : (o : Bool) (m n : ℕ) → fewer o (suc m) (suc n) ≡ fewer o m n
fewer-suc true m n = leb-suc-suc m n
fewer-suc false m n = lt-suc m n

module _ (x y : Value) (xs ys : List Value) (n : ℕ) where
  abbrev Before : ℕ → ℕ → Bool
  Before k j = implies (nat_lt j k) (at_both same (x ∷ xs) (y ∷ ys) j)

  abbrev Lower : ℕ → Bool
  Lower k = at_both below (x ∷ xs) (y ∷ ys) k && at_each (Before k) 1 (suc n)

  abbrev Inner : ℕ → Bool
  Inner k = at_each (λ j. implies (nat_lt j k) (at_both same xs ys j)) 1 n

  none-before : at_each (Before 1) 1 (suc n) ≡ true
  none-before = each-shift (Before 1) 1 n
      ∙ each-sure (λ j. Before 1 (suc j))
      (λ j. ap (λ b. implies b (at_both same (x ∷ xs) (y ∷ ys) (suc (suc j)))) (lt-suc (suc j) zero ∙ lt-zero (suc j))) zero n

  before-more : (i : ℕ) → at_each (Before (suc (suc i))) 1 (suc n) ≡ same x y && Inner (suc i)
  before-more i =
      ap (λ b. implies b (same x y) && at_each (Before (suc (suc i))) 2 n) (lt-suc zero (suc i) ∙ zero-lt i)
      ∙ ap (λ b. same x y && b) (each-shift (Before (suc (suc i))) 1 n
      ∙ each-agree (λ j. Before (suc (suc i)) (suc j)) (λ j. implies (nat_lt j (suc i)) (at_both same xs ys j))
      (λ j. ap (λ b. implies b (at_both same xs ys (suc j))) (lt-suc (suc j) (suc i))) zero n)

  lower-more : lower_at_some (suc n) (x ∷ xs) (y ∷ ys) ≡ below x y || (same x y && lower_at_some n xs ys)
  lower-more =
      ap (λ b. (below x y && b) || at_some Lower 2 n) none-before
      ∙ ap (λ b. b || at_some Lower 2 n) (only (below x y))
      ∙ ap (λ b. below x y || b) (some-shift Lower 1 n
      ∙ some-agree (λ j. Lower (suc j)) (λ j. at_both below xs ys j && (same x y && Inner j))
      (λ i. ap (λ b. at_both below xs ys (suc i) && b) (before-more i)) zero n
      ∙ some-factor (same x y) (at_both below xs ys) Inner 1 n)
    where
      only : (b : Bool) → b && true ≡ b
      only true = refl
      only false = refl

  abbrev Here : ℕ → Bool
  Here k = implies (nat_le k (length (x ∷ xs))) (at_both same (x ∷ xs) (y ∷ ys) k)

  prefix-more : is_prefix (suc n) (x ∷ xs) (y ∷ ys) ≡ same x y && is_prefix n xs ys
  prefix-more =
      ap (λ b. implies b (same x y) && at_each Here 2 n) (leb-suc-suc zero (length xs) ∙ le-zero (length xs))
      ∙ ap (λ b. same x y && b) (each-shift Here 1 n
      ∙ each-agree (λ j. Here (suc j)) (λ j. implies (nat_le j (length xs)) (at_both same xs ys j))
      (λ j. ap (λ b. implies b (at_both same xs ys (suc j))) (leb-suc-suc (suc j) (length xs))) zero n)

-- ---- all of it

lower-none : (n : ℕ) (xs ys : List Value) → ((j : ℕ) → at_both below xs ys (suc j) ≡ false) → lower_at_some n xs ys ≡ false
lower-none n xs ys h = some-never
    (λ k. at_both below xs ys k && at_each (λ j. implies (nat_lt j k) (at_both same xs ys j)) 1 n)
    (λ j. ap (λ b. b && at_each (λ i. implies (nat_lt i (suc j)) (at_both same xs ys i)) 1 n) (h j)) zero n

prefix-none : (n : ℕ) (ys : List Value) → is_prefix n [] ys ≡ true
prefix-none n ys = each-sure (λ k. implies (nat_le k zero) (at_both same [] ys k))
    (λ j. ap (λ b. implies b (at_both same [] ys (suc j))) (leb-suc-zero j)) zero n

-- Nothing is compared with nothing.
pub right-none : (f : Value → Value → Bool) (o : Option Value) → both_have f o None ≡ false
right-none f None = refl
right-none f (Some x) = refl

low-by-number : (o : Bool) (n : ℕ) (xs ys : List Value) → nat_le (length xs) n || nat_le (length ys) n ≡ true →
    low o xs ys ≡ lower_at_some n xs ys || (fewer o (length xs) (length ys) && is_prefix n xs ys)
low-by-number o n [] [] h = sym (ap (λ b. b || (fewer o zero zero && is_prefix n [] [])) (lower-none n [] [] (λ j. refl))
    ∙ ap (λ b. fewer o zero zero && b) (prefix-none n []) ∙ go o)
  where
    go : (o : Bool) → fewer o zero zero && true ≡ o
    go true = refl
    go false = refl
low-by-number o n [] (y ∷ ys) h = sym (ap (λ b. b || (fewer o zero (suc (length ys)) && is_prefix n [] (y ∷ ys)))
    (lower-none n [] (y ∷ ys) (λ j. refl))
    ∙ ap (λ b. fewer o zero (suc (length ys)) && b) (prefix-none n (y ∷ ys)) ∙ go o)
  where
    go : (o : Bool) → fewer o zero (suc (length ys)) && true ≡ true
    go true = ap (λ b. b && true) (le-zero (suc (length ys)))
    go false = ap (λ b. b && true) (zero-lt (length ys))
low-by-number o n (x ∷ xs) [] h = sym (ap (λ b. b || (fewer o (suc (length xs)) zero && is_prefix n (x ∷ xs) []))
    (lower-none n (x ∷ xs) [] none)
    ∙ ap (λ b. b && is_prefix n (x ∷ xs) []) (go o))
  where
    none : (j : ℕ) → at_both below (x ∷ xs) [] (suc j) ≡ false
    none zero = refl
    none (suc j) = right-none below (component (of_list xs) (suc j))

    go : (o : Bool) → fewer o (suc (length xs)) zero ≡ false
    go true = leb-suc-zero (length xs)
    go false = lt-zero (suc (length xs))
low-by-number o zero (x ∷ xs) (y ∷ ys) h =
    let e : false ≡ true = sym (ap (λ b. b || nat_le (suc (length ys)) zero) (leb-suc-zero (length xs)) ∙ leb-suc-zero (length ys))
    ∙ h in cc
low-by-number o (suc n) (x ∷ xs) (y ∷ ys) h =
    ap (λ b. below x y || (same x y && b)) (low-by-number o n xs ys
    (sym (ap (λ b. b || nat_le (suc (length ys)) (suc n)) (leb-suc-suc (length xs) n)
    ∙ ap (λ b. nat_le (length xs) n || b) (leb-suc-suc (length ys) n)) ∙ h))
    ∙ go (below x y) (same x y) (lower_at_some n xs ys) (fewer o (length xs) (length ys)) (is_prefix n xs ys)
    ∙ sym (ap (λ b. b || (fewer o (suc (length xs)) (suc (length ys)) && is_prefix (suc n) (x ∷ xs) (y ∷ ys))) (lower-more x y xs ys n)
    ∙ ap (λ b. (below x y || (same x y && lower_at_some n xs ys)) || (b && is_prefix (suc n) (x ∷ xs) (y ∷ ys)))
    (fewer-suc o (length xs) (length ys))
    ∙ ap (λ b. (below x y || (same x y && lower_at_some n xs ys)) || (fewer o (length xs) (length ys) && b)) (prefix-more x y xs ys n))
  where
    go : (b s l f p : Bool) → b || (s && (l || (f && p))) ≡ (b || (s && l)) || (f && (s && p))
    go true s l f p = refl
    go false true l f p = refl
    go false false l true p = refl
    go false false l false p = refl

-- So it is.
pub lower-by-number : LowerByNumber
lower-by-number o n xs ys h = is-low o xs ys ∙ low-by-number o n xs ys h
