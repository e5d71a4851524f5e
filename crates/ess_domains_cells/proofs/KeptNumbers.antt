-- Sums, products, powers and maxima of numbers that are kept at a limit.
use Rattle.std.proofs.Common.{◌≡◌, refl, sym, ap, ◌∙◌, ℕ, zero, suc, ◌+◌, ◌-◌, ◌*◌, ◌^◌, ◌<◌, ◌≤◌, Bool, true, false, if◌then◌else◌, arith}
use Rattle.std.specs.Prelude.{nat_le}
use Rattle.std.proofs.lemmas.Nat.{mul-le}
use Rattle.std.proofs.Math.Nat.{mul_comm, mul-zero, zero-mul, pow-zero, pow-succ'}
use Rattle.ess_domains_cells.specs.Kept.{limit, at_most, kept, greater}

-- ---- at any limit

small : (m n : ℕ) → n ≤ m → at_most m n ≡ n
small m n h = grind arith

large : (m n : ℕ) → m ≤ n → at_most m n ≡ m
large m n h = grind arith

at_most-twice : (m n : ℕ) → at_most m (at_most m n) ≡ at_most m n
at_most-twice m n = grind arith

sum-at_most : (m a b : ℕ) → at_most m (at_most m a + at_most m b) ≡ at_most m (a + b)
sum-at_most m a b = grind arith

greater-at_most : (m a b : ℕ) → greater (at_most m a) (at_most m b) ≡ at_most m (greater a b)
greater-at_most m a b = grind arith

-- ---- products

times-large : (m a b : ℕ) → m ≤ a → 0 < b → m ≤ a * b
times-large m a b h z = let p : m * 1 ≤ a * b = mul-le m 1 a b h z in omega arith

large-product : (m a b : ℕ) → 0 < m → m ≤ a → at_most m (m * b) ≡ at_most m (a * b)
large-product m a zero z h = ap (at_most m) (mul-zero m ∙ sym (mul-zero a))
large-product m a (suc b) z h =
    large m (m * suc b) (times-large m m (suc b) (omega arith) (omega arith)) ∙ sym (large m (a * suc b) (times-large m a (suc b) h (omega arith)))

left-product : (m a b : ℕ) → 0 < m → at_most m (at_most m a * b) ≡ at_most m (a * b)
left-product m a b z = go (nat_le a m) refl
  where
    go : (t : Bool) → nat_le a m ≡ t → at_most m ((if t then a else m) * b) ≡ at_most m (a * b)
    go true e = refl
    go false e = large-product m a b z (grind arith)

product-at_most : (m a b : ℕ) → 0 < m → at_most m (at_most m a * at_most m b) ≡ at_most m (a * b)
product-at_most m a b z =
    left-product m a (at_most m b) z ∙ ap (at_most m) (mul_comm a (at_most m b)) ∙ left-product m b a z ∙ ap (at_most m) (mul_comm b a)

-- ---- powers

power-base : (m a n : ℕ) → 0 < m → at_most m (at_most m a ^ n) ≡ at_most m (a ^ n)
power-base m a zero z = ap (at_most m) (pow-zero (at_most m a) ∙ sym (pow-zero a))
power-base m a (suc n) z =
    ap (at_most m) (pow-succ' (at_most m a) n)
    ∙ sym (product-at_most m (at_most m a) (at_most m a ^ n) z)
    ∙ ap (λ k. at_most m (at_most m (at_most m a) * k)) (power-base m a n z)
    ∙ product-at_most m (at_most m a) (a ^ n) z
    ∙ left-product m a (a ^ n) z
    ∙ ap (at_most m) (sym (pow-succ' a n))

power-positive : (a n : ℕ) → 0 < a → 0 < a ^ n
power-positive a zero z = let e = pow-zero a in omega arith
power-positive a (suc n) z =
    let p = power-positive a n z in
    let q : 1 * 1 ≤ a * a ^ n = mul-le 1 1 a (a ^ n) z p in
    let e = pow-succ' a n in omega arith

power-above : (a n : ℕ) → 1 < a → n < a ^ n
power-above a zero z = let e = pow-zero a in omega arith
power-above a (suc n) z =
    let p = power-above a n z in
    let q : 2 * suc n ≤ a * a ^ n = mul-le 2 (suc n) a (a ^ n) z p in
    let e = pow-succ' a n in omega arith

power-rises : (a n k : ℕ) → 0 < a → a ^ n ≤ a ^ (k + n)
power-rises a n zero z = let e : 0 + n ≡ n = omega arith in let f : a ^ (0 + n) ≡ a ^ n = ap (λ k. a ^ k) e in omega arith
power-rises a n (suc k) z =
    let p = power-rises a n k z in
    let q : 1 * (a ^ n) ≤ a * a ^ (k + n) = mul-le 1 (a ^ n) a (a ^ (k + n)) z p in
    let e = pow-succ' a (k + n) in
    let f : a ^ (suc k + n) ≡ a ^ suc (k + n) = ap (λ j. a ^ j) (omega arith) in omega arith

power-of-0 : (n : ℕ) → 0 < n → 0 ^ n ≡ 0
power-of-0 zero z = absurd (omega arith)
power-of-0 (suc n) z = pow-succ' 0 n ∙ zero-mul (0 ^ n)

power-of-1 : (n : ℕ) → 1 ^ n ≡ 1
power-of-1 zero = pow-zero 1
power-of-1 (suc n) = let p = power-of-1 n in let e = pow-succ' 1 n in omega arith

-- A greater exponent than the limit changes nothing.
power-exponent : (m a n : ℕ) → 0 < m → at_most m (a ^ at_most m n) ≡ at_most m (a ^ n)
power-exponent m a n z = go (nat_le n m) refl
  where
    above : (a k : ℕ) → at_most m (a ^ m) ≡ at_most m (a ^ (k + m))
    above zero k = ap (at_most m) (power-of-0 m z ∙ sym (power-of-0 (k + m) (omega (arith, z))))
    above (suc zero) k = ap (at_most m) (power-of-1 m ∙ sym (power-of-1 (k + m)))
    above (suc (suc a)) k =
        let p = power-above (suc (suc a)) m (omega arith) in
        let q = power-rises (suc (suc a)) m k (omega arith) in
        large m (suc (suc a) ^ m) (omega arith) ∙ sym (large m (suc (suc a) ^ (k + m)) (omega arith))

    go : (t : Bool) → nat_le n m ≡ t → at_most m (a ^ (if t then n else m)) ≡ at_most m (a ^ n)
    go true e = refl
    go false e = let f : (n - m) + m ≡ n = grind arith in above a (n - m) ∙ ap (λ k. at_most m (a ^ k)) f

power-at_most : (m a n : ℕ) → 0 < m → at_most m (at_most m a ^ at_most m n) ≡ at_most m (a ^ n)
power-at_most m a n z = power-base m a (at_most m n) z ∙ power-exponent m a n z

-- ---- at the limit

-- A kept sum is that of the numbers themselves.
pub kept_sum : (a b : ℕ) → kept (kept a + kept b) ≡ kept (a + b)
kept_sum a b = sum-at_most limit a b

-- The same of a product.
pub kept_product : (a b : ℕ) → kept (kept a * kept b) ≡ kept (a * b)
kept_product a b = product-at_most limit a b (omega arith)

-- The same of a power.
pub kept_power : (a n : ℕ) → kept (kept a ^ kept n) ≡ kept (a ^ n)
kept_power a n = power-at_most limit a n (omega arith)

-- The same of the greater one.
pub kept_greater : (a b : ℕ) → greater (kept a) (kept b) ≡ kept (greater a b)
kept_greater a b = greater-at_most limit a b

pub kept_twice : (a : ℕ) → kept (kept a) ≡ kept a
kept_twice a = at_most-twice limit a

-- ---- a power by its factors

-- Before the first factor.
pub power_none : (a : ℕ) → kept (a ^ 0) ≡ 1
power_none a = ap kept (pow-zero a)

-- One factor more.
pub power_more : (a k : ℕ) → kept (kept (a ^ k) * a) ≡ kept (a ^ (k + 1))
power_more a k =
    ap kept (mul_comm (kept (a ^ k)) a)
    ∙ sym (left-product limit a (kept (a ^ k)) (omega arith)) ∙ kept_product a (a ^ k)
    ∙ ap kept (sym (pow-succ' a k)) ∙ ap (λ j. kept (a ^ j)) (omega arith)

-- A power that reaches the limit stays there.
pub power_reached : (a k n : ℕ) → 0 < a → k ≤ n → limit ≤ kept (a ^ k) → kept (a ^ n) ≡ limit
power_reached a k n z h r =
    let p = power-rises a k (n - k) z in
    let e : (n - k) + k ≡ n = omega (arith, h) in
    let f : a ^ ((n - k) + k) ≡ a ^ n = ap (λ j. a ^ j) e in
    let g : limit ≤ a ^ k = grind arith in
    large limit (a ^ n) (omega arith)

-- ---- small bases

-- 0 to a power above 0.
pub power_of_0 : (a n : ℕ) → a ≡ 0 → 0 < n → 0 ≡ kept (a ^ n)
power_of_0 a n e z = sym (ap (λ b. kept (b ^ n)) e ∙ ap kept (power-of-0 n z))

one-small : (a n : ℕ) → a ≤ 1 → (a ≡ 0 → n ≡ 0) → 1 ≡ kept (a ^ n)
one-small zero n h p = sym (ap (λ k. kept (0 ^ k)) (p refl) ∙ ap kept (pow-zero 0))
one-small (suc zero) n h p = sym (ap kept (power-of-1 n))
one-small (suc (suc a)) n h p = absurd (omega arith)

-- 1 to any power, and any number to the power 0.
pub power_of_1 : (a n : ℕ) → a ≤ 1 → 0 < a → 1 ≡ kept (a ^ n)
power_of_1 a n h z = one-small a n h (λ e. absurd (omega arith))

pub power_to_0 : (a n : ℕ) → n ≡ 0 → 1 ≡ kept (a ^ n)
power_to_0 a n e = sym (ap (λ k. kept (a ^ k)) e ∙ ap kept (pow-zero a))

-- 0 and 1 to a power above 0 are themselves.
pub power_small : (a n : ℕ) → a ≤ 1 → 0 < n → a ≡ kept (a ^ n)
power_small zero n h z = power_of_0 0 n refl z
power_small (suc zero) n h z = power_of_1 1 n h (omega arith)
power_small (suc (suc a)) n h z = absurd (omega arith)
