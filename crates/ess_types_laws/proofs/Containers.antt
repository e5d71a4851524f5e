-- Canonical sets, multisets, functions, relations, partitions and lists of values with a property: their members have the
-- property, and their lists rise.
use Rattle.std.proofs.Common.{◌≡◌, refl, sym, ap, ◌∙◌, subst, ℕ, suc, Bool, true, false, not, if◌then◌else◌, List, [], ◌∷◌, map, filter, length, pos, Option, Some, None, option_map, arith}
use Rattle.std.specs.List.{list_all, list_any}
use Rattle.std.specs.Ordering.{is_lt, is_eq, ordering_then}
use Rattle.std.specs.Cmp.{int_cmp_is}
use Rattle.std.proofs.lemmas.Int.{ints}
use Rattle.std.specs.declared.cmp.Ordering.{Ordering}
use Rattle.std.specs.declared.cmp.Ordering.TheVariants.{Less, Equal, Greater}
use Rattle.std.proofs.lemmas.List.Folds.{list_all-append}
use Rattle.ess_semantics.specs.Lists.{append_all}
use Rattle.ess_semantics.specs.Values.{a_tuple, Value, number, node, nil, cons, from_of, to_of, items_of, itself}
use Rattle.ess_semantics.specs.Order.{order, orders, same, below}
use Rattle.ess_semantics.specs.Collections.{holds, rises, no_twice, value_at}
use Rattle.ess_semantics.specs.Operators.{numbers_from, least, greatest, part_with}
use Rattle.ess_semantics.specs.Membership.{is_pair}
use Rattle.ess_semantics.proofs.Tests.{and-left, and-right, and-both, or-left-no, not-true}
use Rattle.ess_semantics.proofs.Orders.{order_total}
use Rattle.ess_semantics.proofs.Sorting.{Below, Rising, sorted-of, less-below}

-- ---- lists that rise

-- A list whose items rise rises.
pub of-sorted : (xs : List Value) → Rising order_total xs → rises itself xs ≡ true
of-sorted [] r = refl
of-sorted (x ∷ []) r = refl
of-sorted (x ∷ y ∷ ys) r = and-both (below x y) (rises itself (y ∷ ys)) (less-below x y r.0.0) (of-sorted (y ∷ ys) r.1)

below-filtered : (f : Value → Bool) (x : Value) (xs : List Value) → Below order_total x xs → Below order_total x (filter f xs)
below-filtered f x [] b = tt
below-filtered f x (y ∷ ys) b = go (f y) (below-filtered f x ys b.1)
  where
    go : (c : Bool) → Below order_total x (filter f ys) → Below order_total x (if c then y ∷ filter f ys else filter f ys)
    go true r = (b.0, r)
    go false r = r

rising-filtered : (f : Value → Bool) (xs : List Value) → Rising order_total xs → Rising order_total (filter f xs)
rising-filtered f [] r = tt
rising-filtered f (x ∷ xs) r = go (f x) (rising-filtered f xs r.1)
  where
    go : (c : Bool) → Rising order_total (filter f xs) → Rising order_total (if c then x ∷ filter f xs else filter f xs)
    go true q = (below-filtered f x xs r.0, q)
    go false q = q

-- Some of the items of a rising list rise.
pub filter-rises : (f : Value → Bool) (xs : List Value) → rises itself xs ≡ true → rises itself (filter f xs) ≡ true
filter-rises f xs r = of-sorted (filter f xs) (rising-filtered f xs (sorted-of xs r))

-- What holds of all items holds of some.
pub all-filtered : (h f : Value → Bool) (xs : List Value) → list_all h xs ≡ true → list_all h (filter f xs) ≡ true
all-filtered h f [] p = refl
all-filtered h f (x ∷ xs) p = go (f x) (all-filtered h f xs (and-right (h x) (list_all h xs) p))
  where
    go : (c : Bool) → list_all h (filter f xs) ≡ true → list_all h (if c then x ∷ filter f xs else filter f xs) ≡ true
    go true q = and-both (h x) (list_all h (filter f xs)) (and-left (h x) (list_all h xs) p) q
    go false q = q

next-number : (k : ℕ) → below (number (pos k)) (number (pos (suc k))) ≡ true
next-number k = ap is_lt (sym (int_cmp_is (pos k) (pos (suc k)) Less (omega (arith, ints))))

-- The indices of a list rise.
pub numbers-rise : (k : ℕ) (xs : List Value) → rises itself (numbers_from k xs) ≡ true
numbers-rise k [] = refl
numbers-rise k (x ∷ []) = refl
numbers-rise k (x ∷ y ∷ ys) =
    and-both (below (number (pos k)) (number (pos (suc k)))) (rises itself (numbers_from (suc k) (y ∷ ys))) (next-number k)
    (numbers-rise (suc k) (y ∷ ys))

-- There are as many of them as items.
pub numbers-length : (k : ℕ) (xs : List Value) → length (numbers_from k xs) ≡ length xs
numbers-length k [] = refl
numbers-length k (x ∷ xs) = ap suc (numbers-length (suc k) xs)

-- ---- pairs

-- Of two pairs that rise the first parts rise, where they differ.
first-rise : (x y : Value) → is_pair x ≡ true → is_pair y ≡ true → below x y ≡ true → same (from_of x) (from_of y) ≡ false →
    below (from_of x) (from_of y) ≡ true
first-rise (node a_tuple (cons a (cons b nil))) (node a_tuple (cons a' (cons b' nil))) i j l n = go (order a a') l n
  where
    go : (o : Ordering) → is_lt (ordering_then o (orders (cons b nil) (cons b' nil))) ≡ true → is_eq o ≡ false → is_lt o ≡ true
    go Less l n = refl
    go Equal l n = cc
    go Greater l n = cc
first-rise (node a_tuple (cons a (cons b nil))) _ i j l n = cc
first-rise _ y i j l n = cc

-- The first parts of rising pairs rise, where no two of them are equal.
pub firsts-rise : (xs : List Value) → list_all is_pair xs ≡ true → rises itself xs ≡ true → no_twice from_of xs ≡ true →
    rises from_of xs ≡ true
firsts-rise [] h r n = refl
firsts-rise (x ∷ []) h r n = refl
firsts-rise (x ∷ y ∷ ys) h r n =
    let hy = and-right (is_pair x) (list_all is_pair (y ∷ ys)) h in
    and-both (below (from_of x) (from_of y)) (rises from_of (y ∷ ys))
    (first-rise x y (and-left (is_pair x) (list_all is_pair (y ∷ ys)) h) (and-left (is_pair y) (list_all is_pair ys) hy)
    (and-left (below x y) (rises itself (y ∷ ys)) r)
    (or-left-no (same (from_of x) (from_of y)) (list_any (λ z. same (from_of x) (from_of z)) ys)
    (not-true _ (and-left (not (list_any (λ z. same (from_of x) (from_of z)) (y ∷ ys))) (no_twice from_of (y ∷ ys)) n))))
    (firsts-rise (y ∷ ys) hy (and-right (below x y) (rises itself (y ∷ ys)) r)
    (and-right (not (list_any (λ z. same (from_of x) (from_of z)) (y ∷ ys))) (no_twice from_of (y ∷ ys)) n))

-- ---- one of a list

-- The value of a function is the second part of one of its pairs.
pub value-at-all : (h : Value → Bool) (xs : List Value) (x v : Value) → list_all (λ y. h (to_of y)) xs ≡ true → value_at xs x ≡ Some v →
    h v ≡ true
value-at-all h [] x v a e = cc
value-at-all h (y ∷ ys) x v a e = go (same (from_of y) x)
    (λ r. value-at-all h ys x v (and-right (h (to_of y)) (list_all (λ z. h (to_of z)) ys) a) r) e
  where
    go : (b : Bool) → (value_at ys x ≡ Some v → h v ≡ true) → (if b then Some (to_of y) else value_at ys x) ≡ Some v → h v ≡ true
    go true ih r = let q : to_of y ≡ v = cc in subst (λ z. h z ≡ true) q (and-left (h (to_of y)) (list_all (λ z. h (to_of z)) ys) a)
    go false ih r = ih r

-- The part with a value is one of the parts.
pub part-with-all : (h : Value → Bool) (xs : List Value) (x v : Value) → list_all h xs ≡ true → part_with xs x ≡ Some v → h v ≡ true
part-with-all h [] x v a e = cc
part-with-all h (y ∷ ys) x v a e = go (holds (items_of y) x) (λ r. part-with-all h ys x v (and-right (h y) (list_all h ys) a) r) e
  where
    go : (b : Bool) → (part_with ys x ≡ Some v → h v ≡ true) → (if b then Some y else part_with ys x) ≡ Some v → h v ≡ true
    go true ih r = let q : y ≡ v = cc in subst (λ z. h z ≡ true) q (and-left (h y) (list_all h ys) a)
    go false ih r = ih r

choice : (h : Value → Bool) (b : Bool) (m x : Value) → h m ≡ true → h x ≡ true → h (if b then m else x) ≡ true
choice h true m x p q = p
choice h false m x p q = q

-- The least value is one of the list.
pub least-all : (h : Value → Bool) (xs : List Value) (v : Value) → list_all h xs ≡ true → least xs ≡ Some v → h v ≡ true
least-all h [] v a e = cc
least-all h (x ∷ []) v a e = let q : x ≡ v = cc in subst (λ z. h z ≡ true) q (and-left (h x) true a)
least-all h (x ∷ y ∷ ys) v a e = go (λ m r. least-all h (y ∷ ys) m (and-right (h x) (list_all h (y ∷ ys)) a) r) (least (y ∷ ys)) refl e
  where
    go : ((m : Value) → least (y ∷ ys) ≡ Some m → h m ≡ true) → (o : Option Value) → least (y ∷ ys) ≡ o →
        option_map (λ m. if below m x then m else x) o ≡ Some v → h v ≡ true
    go ih None q r = cc
    go ih (Some m) q r =
        let z : (if below m x then m else x) ≡ v = cc in
        subst (λ z. h z ≡ true) z (choice h (below m x) m x (ih m q) (and-left (h x) (list_all h (y ∷ ys)) a))

-- The greatest value is one of the list.
pub greatest-all : (h : Value → Bool) (xs : List Value) (v : Value) → list_all h xs ≡ true → greatest xs ≡ Some v → h v ≡ true
greatest-all h [] v a e = cc
greatest-all h (x ∷ []) v a e = let q : x ≡ v = cc in subst (λ z. h z ≡ true) q (and-left (h x) true a)
greatest-all h (x ∷ y ∷ ys) v a e = go (λ m r. greatest-all h (y ∷ ys) m (and-right (h x) (list_all h (y ∷ ys)) a) r) (greatest (y ∷ ys))
    refl e
  where
    go : ((m : Value) → greatest (y ∷ ys) ≡ Some m → h m ≡ true) → (o : Option Value) → greatest (y ∷ ys) ≡ o →
        option_map (λ m. if below x m then m else x) o ≡ Some v → h v ≡ true
    go ih None q r = cc
    go ih (Some m) q r =
        let z : (if below x m then m else x) ≡ v = cc in
        subst (λ z. h z ≡ true) z (choice h (below x m) m x (ih m q) (and-left (h x) (list_all h (y ∷ ys)) a))

-- ---- all of several lists

-- What holds of the items of each value holds of all of them.
pub all-of-each : (h : Value → Bool) (xs : List Value) → list_all (λ x. list_all h (items_of x)) xs ≡ true →
    list_all h (append_all (map items_of xs)) ≡ true
all-of-each h [] a = refl
all-of-each h (x ∷ xs) a =
    list_all-append h (items_of x) (append_all (map items_of xs))
    ∙ and-both (list_all h (items_of x)) (list_all h (append_all (map items_of xs)))
    (and-left (list_all h (items_of x)) (list_all (λ y. list_all h (items_of y)) xs) a)
    (all-of-each h xs (and-right (list_all h (items_of x)) (list_all (λ y. list_all h (items_of y)) xs) a))
