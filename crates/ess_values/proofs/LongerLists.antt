-- The strictly rising list of a list's items is as long as that of a part of it.
use Rattle.std.proofs.Common.{◌≡◌, refl, sym, ap, ◌∙◌, subst, ℕ, zero, suc, ◌≤◌, Bool, true, false, ◌||◌, if◌then◌else◌, List, [], ◌∷◌, ◌++◌, length, pos, ℤ, ◌+ℤ◌, ◌-ℤ◌, arith, ◌⊎◌, inl, inr}
use Rattle.std.specs.Prelude.{int_lt}
use Rattle.std.specs.Ordering.{is_lt}
use Rattle.std.specs.declared.cmp.Ordering.TheVariants.{Less, Equal, Greater}
use Rattle.std.proofs.lemmas.Int.{ints}
use Rattle.ess_semantics.specs.Values.{Value, number, itself}
use Rattle.ess_semantics.specs.Order.{order, same, below}
use Rattle.ess_semantics.specs.Collections.{holds, sorted_once, rises}
use Rattle.ess_semantics.specs.Numbers.{natural}
use Rattle.ess_semantics.specs.Domains.{numbers_up, interval}
use Rattle.ess_semantics.proofs.Tests.{and-both, or-yes}
use Rattle.ess_semantics.proofs.Orders.{order_total}
use Rattle.ess_semantics.proofs.Sorting.{Rising, Has, below-has, not-itself, sorted-of, has-holds, holds-has, holds-sorted_once, sorted_once-rises}

-- ---- a list whose items another one has

-- A list that rises strictly is no longer than another one that has all its items.
shorter : (xs ys : List Value) → Rising order_total xs → Rising order_total ys → ((v : Value) → Has order_total xs v → Has order_total ys v) → length xs ≤ length ys
shorter [] ys p q f = omega arith
shorter (x ∷ xs) [] p q f = absurd (f x (inl refl))
shorter (x ∷ xs) (y ∷ ys) p q f = go (f x (inl refl)) (shorter xs ys p.1 q.1) (shorter (x ∷ xs) ys p q.1)
  where
    after : (y ≡ x) → (v : Value) → Has order_total xs v → (y ≡ v) ⊎ Has order_total ys v → Has order_total ys v
    after e v h (inl d) = absurd (not-itself order_total x (below-has order_total x x xs p.0 (subst (Has order_total xs) (sym d ∙ e) h)))
    after e v h (inr k) = k

    above : Has order_total ys x → (v : Value) → (x ≡ v) ⊎ Has order_total xs v → (y ≡ v) ⊎ Has order_total ys v → Has order_total ys v
    above k v (inl d) w = subst (Has order_total ys) d k
    above k v (inr h) (inl d) =
        absurd (not-itself order_total y (order_total.trans y x y (below-has order_total y x ys q.0 k) (ap (order x) d ∙ below-has order_total x v xs p.0 h)))
    above k v (inr h) (inr j) = j

    go : (y ≡ x) ⊎ Has order_total ys x → (((v : Value) → Has order_total xs v → Has order_total ys v) → length xs ≤ length ys)
        → (((v : Value) → (x ≡ v) ⊎ Has order_total xs v → Has order_total ys v) → suc (length xs) ≤ length ys) → suc (length xs) ≤ suc (length ys)
    go (inl e) a b = let h = a (λ v h. after e v h (f v (inr h))) in omega (arith, h)
    go (inr k) a b = let h = b (λ v h. above k v h (f v h)) in omega (arith, h)

no_longer : (xs ys : List Value) → rises itself xs ≡ true → ((v : Value) → holds xs v ≡ true → holds ys v ≡ true) → length xs ≤ length (sorted_once ys)
no_longer xs ys r f =
    shorter xs (sorted_once ys) (sorted-of xs r) (sorted-of (sorted_once ys) (sorted_once-rises ys))
    (λ v h. holds-has (sorted_once ys) v (holds-sorted_once ys v ∙ f v (has-holds xs v h)))

-- ---- a part of a list

holds_left : (xs ys : List Value) (v : Value) → holds xs v ≡ true → holds (xs ++ ys) v ≡ true
holds_left [] ys v h = cc
holds_left (x ∷ xs) ys v h = go (same x v) (holds_left xs ys v) h
  where
    go : (b : Bool) → (holds xs v ≡ true → holds (xs ++ ys) v ≡ true) → b || holds xs v ≡ true → b || holds (xs ++ ys) v ≡ true
    go true f h = refl
    go false f h = f h

holds_right : (xs ys : List Value) (v : Value) → holds ys v ≡ true → holds (xs ++ ys) v ≡ true
holds_right [] ys v h = h
holds_right (x ∷ xs) ys v h = ap (λ b. same x v || b) (holds_right xs ys v h) ∙ or-yes (same x v)

next_number : (a : ℤ) → below (number a) (number (a +ℤ pos 1)) ≡ true
next_number a = let h : int_lt a (a +ℤ pos 1) ≡ true = grind (arith, ints) in ap (λ b. is_lt (if b then Less else (if int_lt (a +ℤ pos 1) a then Greater else Equal))) h

numbers_rise : (a : ℤ) (k : ℕ) → rises itself (numbers_up a k) ≡ true
numbers_rise a zero = refl
numbers_rise a (suc zero) = refl
numbers_rise a (suc (suc k)) = and-both _ _ (next_number a) (numbers_rise (a +ℤ pos 1) (suc k))

pub rest_longer : (xs ys : List Value) → length (sorted_once ys) ≤ length (sorted_once (xs ++ ys))
rest_longer xs ys = no_longer (sorted_once ys) (xs ++ ys) (sorted_once-rises ys) (λ v h. holds_right xs ys v (sym (holds-sorted_once ys v) ∙ h))

pub interval_longer : (a b : ℤ) (ys : List Value) → length (interval a b) ≤ length (sorted_once (interval a b ++ ys))
interval_longer a b ys = no_longer (interval a b) (interval a b ++ ys) (numbers_rise a (natural ((b -ℤ a) +ℤ pos 1))) (λ v h. holds_left (interval a b) ys v h)
