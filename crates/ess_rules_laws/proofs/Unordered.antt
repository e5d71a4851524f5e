-- The words on numbers, and `allDiff`, that don't see the order of a list.
use Rattle.std.proofs.Common.{◌≡◌, refl, sym, ap, ◌∙◌, Bool, true, false, ◌&&◌, ◌||◌, not, List, ℤ, Some, pos, arith}
use Rattle.std.specs.Prelude.{◌+ℤ◌, ◌-ℤ◌, ◌*ℤ◌, neg_ℤ}
use Rattle.std.proofs.lemmas.Int.{ints}
use Rattle.std.proofs.Math.IntN.{+ℤ_comm, +ℤ_assoc, ℤ_ind, +ℤ_one, -ℤ_one, zero-*ℤ, *ℤ-zero, suc_ℤ-*ℤ, pred_ℤ-*ℤ}
use Rattle.ess_semantics.specs.declared.words.Fun.{Fun}
use Rattle.ess_semantics.specs.Values.{Value, number, truth}
use Rattle.ess_semantics.specs.Order.{same}
use Rattle.ess_semantics.specs.Collections.{holds}
use Rattle.ess_semantics.specs.Operators.{number_in, sum_of, product_of, all_different}
use Rattle.ess_semantics.proofs.Orders.{same-equal, same-itself}
use Rattle.ess_semantics.proofs.Tests.{both-ways}
use Rattle.ess_rules_laws.proofs.Permutations.{Perm, same_list, skip, swap, chain, holds-perm, Unordered, on-items}

sum-swap : (a b c : ℤ) → a +ℤ (b +ℤ c) ≡ b +ℤ (a +ℤ c)
sum-swap a b c = sym (+ℤ_assoc a b c) ∙ ap (λ n. n +ℤ c) (+ℤ_comm a b) ∙ +ℤ_assoc b a c

-- one more, and one less, as the first factor
more-times : (m k : ℤ) → (m +ℤ pos 1) *ℤ k ≡ m *ℤ k +ℤ k
more-times m k = ap (λ z. z *ℤ k) (+ℤ_one m) ∙ suc_ℤ-*ℤ m k

less-times : (m k : ℤ) → (m +ℤ neg_ℤ (pos 1)) *ℤ k ≡ m *ℤ k -ℤ k
less-times m k = ap (λ z. z *ℤ k) (-ℤ_one m) ∙ pred_ℤ-*ℤ m k

times-sum : (m x y : ℤ) → m *ℤ (x +ℤ y) ≡ m *ℤ x +ℤ m *ℤ y
times-sum m x y = ℤ_ind (λ z. z *ℤ (x +ℤ y) ≡ z *ℤ x +ℤ z *ℤ y)
    (zero-*ℤ (x +ℤ y) ∙ ap (λ z. z +ℤ pos 0) (sym (zero-*ℤ x)) ∙ ap (λ z. pos 0 *ℤ x +ℤ z) (sym (zero-*ℤ y)))
    (λ n h. let a = more-times (pos n) (x +ℤ y) in let b = more-times (pos n) x in let c = more-times (pos n) y in omega (arith, ints))
    (λ n h. let a = less-times (neg_ℤ (pos n)) (x +ℤ y) in let b = less-times (neg_ℤ (pos n)) x in let c = less-times (neg_ℤ (pos n)) y in omega (arith, ints))
    m

-- Factors may change places.
pub product-swap : (a b c : ℤ) → a *ℤ (b *ℤ c) ≡ b *ℤ (a *ℤ c)
product-swap a b c = ℤ_ind (λ z. z *ℤ (b *ℤ c) ≡ b *ℤ (z *ℤ c))
    (zero-*ℤ (b *ℤ c) ∙ sym (*ℤ-zero b) ∙ ap (λ z. b *ℤ z) (sym (zero-*ℤ c)))
    (λ n h. more-times (pos n) (b *ℤ c) ∙ ap (λ z. z +ℤ b *ℤ c) h ∙ sym (times-sum b (pos n *ℤ c) c) ∙ ap (λ z. b *ℤ z) (sym (more-times (pos n) c)))
    (λ n h. less-times (neg_ℤ (pos n)) (b *ℤ c) ∙ ap (λ z. z -ℤ b *ℤ c) h ∙ sym (times-less b (neg_ℤ (pos n) *ℤ c) c) ∙ ap (λ z. b *ℤ z) (sym (less-times (neg_ℤ (pos n)) c)))
    a
  where
    times-less : (m x y : ℤ) → m *ℤ (x -ℤ y) ≡ m *ℤ x -ℤ m *ℤ y
    times-less m x y = let h = times-sum m (x -ℤ y) y in let e : (x -ℤ y) +ℤ y ≡ x = omega (arith, ints) in let g = ap (λ z. m *ℤ z) e in omega (arith, ints)

-- The sum of the items.
pub sum-perm : {xs ys : List Value} → Perm xs ys → sum_of xs ≡ sum_of ys
sum-perm same_list = refl
sum-perm (skip {x = x} p) = ap (λ n. number_in x +ℤ n) (sum-perm p)
sum-perm (swap {x = x} {y = y} {xs = xs}) = sum-swap (number_in x) (number_in y) (sum_of xs)
sum-perm (chain p q) = sum-perm p ∙ sum-perm q

-- The product of the items.
pub product-perm : {xs ys : List Value} → Perm xs ys → product_of xs ≡ product_of ys
product-perm same_list = refl
product-perm (skip {x = x} p) = ap (λ n. number_in x *ℤ n) (product-perm p)
product-perm (swap {x = x} {y = y} {xs = xs}) = product-swap (number_in x) (number_in y) (product_of xs)
product-perm (chain p q) = product-perm p ∙ product-perm q

pub same-turned : (x y : Value) → same x y ≡ same y x
same-turned x y = both-ways (same x y) (same y x) (λ e. go x y (same-equal x y e)) (λ e. go y x (same-equal y x e))
  where
    go : (x y : Value) → x ≡ y → same y x ≡ true
    go x y e = ap (λ z. same z x) (sym e) ∙ same-itself x

-- No two items are equal.
pub different-perm : {xs ys : List Value} → Perm xs ys → all_different xs ≡ all_different ys
different-perm same_list = refl
different-perm (skip {x = x} {xs = xs} {ys = ys} p) = ap (λ b. not b && all_different xs) (holds-perm p x) ∙ ap (λ b. not (holds ys x) && b) (different-perm p)
different-perm (swap {x = x} {y = y} {xs = xs}) =
    ap (λ b. not (b || holds xs x) && (not (holds xs y) && all_different xs)) (same-turned y x) ∙ go (same x y) (holds xs x) (holds xs y) (all_different xs)
  where
    go : (s a b r : Bool) → not (s || a) && (not b && r) ≡ not (s || b) && (not a && r)
    go true a b r = refl
    go false true true r = refl
    go false true false r = refl
    go false false true r = refl
    go false false false r = refl
different-perm (chain p q) = different-perm p ∙ different-perm q

-- `sum`.
pub sum-unordered : Unordered Fun.Sum
sum-unordered xs ys p = on-items (λ l. Some (number (sum_of l))) xs ys (ap (λ n. Some (number n)) (sum-perm p))

-- `product`.
pub product-unordered : Unordered Fun.Product
product-unordered xs ys p = on-items (λ l. Some (number (product_of l))) xs ys (ap (λ n. Some (number n)) (product-perm p))

-- `allDiff`.
pub all_diff-unordered : Unordered Fun.AllDiff
all_diff-unordered xs ys p = on-items (λ l. Some (truth (all_different l))) xs ys (ap (λ b. Some (truth b)) (different-perm p))
