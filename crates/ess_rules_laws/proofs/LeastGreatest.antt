-- `min` and `max` don't see the order of a list.
use Rattle.std.proofs.Common.{◌≡◌, refl, sym, ap, ◌∙◌, subst, Bool, true, false, if◌then◌else◌, List, [], ◌∷◌, Option, Some, None, option_map}
use Rattle.std.specs.Ordering.{ordering_reverse, is_lt}
use Rattle.std.specs.declared.cmp.Ordering.{Ordering}
use Rattle.std.specs.declared.cmp.Ordering.TheVariants.{Less, Equal, Greater}
use Rattle.ess_semantics.specs.declared.words.Fun.{Fun}
use Rattle.ess_semantics.specs.Values.{Value}
use Rattle.ess_semantics.specs.Order.{order, below}
use Rattle.ess_semantics.specs.Collections.{place, place_by, sorted_once}
use Rattle.ess_semantics.specs.Operators.{least, greatest}
use Rattle.ess_semantics.proofs.Orders.{order_total, order_exact}
use Rattle.ess_semantics.proofs.Sorting.{below-less, less-below}
use Rattle.ess_rules_laws.proofs.Permutations.{Perm, same_list, skip, swap, chain, Unordered, on-items}

-- b a c says that a comes before c: it is a strict order, and of two values that differ one comes before the other
module _ (b : Value → Value → Bool) (once : (x y : Value) → b x y ≡ true → b y x ≡ false) (on : (x y z : Value) → b x y ≡ true → b y z ≡ true → b x z ≡ true)
    (one : (x y : Value) → b x y ≡ false → b y x ≡ false → x ≡ y) where
  abbrev earlier : Value → Value → Value
  earlier x m = if b m x then m else x

  -- The first value in this order.
  abbrev earliest : List Value → Option Value
  earliest [] = None
  earliest (x ∷ []) = Some x
  earliest (x ∷ xs) = option_map (earlier x) (earliest xs)

  abbrev join : Value → Option Value → Value
  join x None = x
  join x (Some m) = earlier x m

  earliest-cons : (x : Value) (xs : List Value) → earliest (x ∷ xs) ≡ Some (join x (earliest xs))
  earliest-cons x [] = refl
  earliest-cons x (y ∷ ys) = ap (option_map (earlier x)) (earliest-cons y ys) ∙ ap (λ o. Some (join x o)) (sym (earliest-cons y ys))

  two : (x y : Value) → earlier x y ≡ earlier y x
  two x y = go (b y x) (b x y) refl refl
    where
      go : (s t : Bool) → b y x ≡ s → b x y ≡ t → (if s then y else x) ≡ (if t then x else y)
      go true true p q = let r : true ≡ false = sym q ∙ once y x p in cc
      go true false p q = refl
      go false true p q = refl
      go false false p q = one x y q p

  -- m comes before y and not before x, so x does
  before : (x y m : Value) → b m y ≡ true → b m x ≡ false → b x y ≡ true
  before x y m p q = go (b x m) refl
    where
      go : (s : Bool) → b x m ≡ s → b x y ≡ true
      go true r = on x m y r p
      go false r = subst (λ z. b z y ≡ true) (sym (one x m r q)) p

  three : (x y m : Value) → earlier x (earlier y m) ≡ earlier y (earlier x m)
  three x y m = go (b m y) (b m x) refl refl
    where
      go : (s t : Bool) → b m y ≡ s → b m x ≡ t → earlier x (if s then m else y) ≡ earlier y (if t then m else x)
      go true true p q = ap (λ s. if s then m else x) q ∙ ap (λ s. if s then m else y) (sym p)
      go true false p q = ap (λ s. if s then m else x) q ∙ ap (λ s. if s then x else y) (sym (before x y m p q))
      go false true p q = ap (λ s. if s then y else x) (before y x m q p) ∙ ap (λ s. if s then m else y) (sym p)
      go false false p q = two x y

  join-swap : (x y : Value) (o : Option Value) → earlier x (join y o) ≡ earlier y (join x o)
  join-swap x y None = two x y
  join-swap x y (Some m) = three x y m

  earliest-perm : {xs ys : List Value} → Perm xs ys → earliest xs ≡ earliest ys
  earliest-perm same_list = refl
  earliest-perm (skip {x = x} {xs = xs} {ys = ys} p) = earliest-cons x xs ∙ ap (λ o. Some (join x o)) (earliest-perm p) ∙ sym (earliest-cons x ys)
  earliest-perm (swap {x = x} {y = y} {xs = xs}) =
      ap (option_map (earlier x)) (earliest-cons y xs) ∙ ap Some (join-swap x y (earliest xs)) ∙ ap (option_map (earlier y)) (sym (earliest-cons x xs))
  earliest-perm (chain p q) = earliest-perm p ∙ earliest-perm q

  -- One value twice is as good as once.
  itself-earlier : (x : Value) → earlier x x ≡ x
  itself-earlier x = go (b x x)
    where
      go : (s : Bool) → (if s then x else x) ≡ x
      go true = refl
      go false = refl

  join-twice : (x : Value) (o : Option Value) → earlier x (join x o) ≡ join x o
  join-twice x None = itself-earlier x
  join-twice x (Some m) = go (b m x) refl
    where
      go : (s : Bool) → b m x ≡ s → earlier x (if s then m else x) ≡ (if s then m else x)
      go true q = ap (λ s. if s then m else x) q
      go false q = itself-earlier x

  -- A value put into a rising list.
  earliest-place : (v : Value) (xs : List Value) → earliest (place v xs) ≡ Some (join v (earliest xs))
  earliest-place v [] = refl
  earliest-place v (x ∷ xs) = go (order v x) refl (earliest-place v xs)
    where
      go : (o : Ordering) → order v x ≡ o → earliest (place v xs) ≡ Some (join v (earliest xs)) → earliest (place_by o v x xs (place v xs)) ≡ Some (join v (earliest (x ∷ xs)))
      go Less q h = earliest-cons v (x ∷ xs)
      go Equal q h =
          earliest-cons x xs ∙ ap Some (sym (join-twice x (earliest xs))) ∙ ap (λ z. Some (join z (Some (join x (earliest xs))))) (sym (order_exact v x q))
          ∙ ap (λ o. Some (join v o)) (sym (earliest-cons x xs))
      go Greater q h =
          earliest-cons x (place v xs) ∙ ap (λ o. Some (join x o)) h ∙ ap Some (join-swap x v (earliest xs))
          ∙ ap (λ o. Some (join v o)) (sym (earliest-cons x xs))

  earliest-once : (xs : List Value) → earliest (sorted_once xs) ≡ earliest xs
  earliest-once [] = refl
  earliest-once (x ∷ xs) = earliest-place x (sorted_once xs) ∙ ap (λ o. Some (join x o)) (earliest-once xs) ∙ sym (earliest-cons x xs)

-- ---- both ways

below-once : (x y : Value) → below x y ≡ true → below y x ≡ false
below-once x y e = ap is_lt (order_total.antisymm y x ∙ ap ordering_reverse (below-less x y e))

below-on : (x y z : Value) → below x y ≡ true → below y z ≡ true → below x z ≡ true
below-on x y z e f = less-below x z (order_total.trans x y z (below-less x y e) (below-less y z f))

below-one : (x y : Value) → below x y ≡ false → below y x ≡ false → x ≡ y
below-one x y e f = go (order x y) refl e (ap is_lt (sym (order_total.antisymm y x)) ∙ f)
  where
    go : (o : Ordering) → order x y ≡ o → is_lt o ≡ false → is_lt (ordering_reverse (order x y)) ≡ false → x ≡ y
    go Less q e f = cc
    go Equal q e f = order_exact x y q
    go Greater q e f = let r : true ≡ false = ap (λ p. is_lt (ordering_reverse p)) (sym q) ∙ f in cc

least-is : (xs : List Value) → least xs ≡ earliest below below-once below-on below-one xs
least-is [] = refl
least-is (x ∷ []) = refl
least-is (x ∷ y ∷ ys) = ap (option_map (λ m. if below m x then m else x)) (least-is (y ∷ ys))

above-once : (x y : Value) → below y x ≡ true → below x y ≡ false
above-once x y e = below-once y x e

above-on : (x y z : Value) → below y x ≡ true → below z y ≡ true → below z x ≡ true
above-on x y z e f = below-on z y x f e

above-one : (x y : Value) → below y x ≡ false → below x y ≡ false → x ≡ y
above-one x y e f = below-one x y f e

greatest-is : (xs : List Value) → greatest xs ≡ earliest (λ x y. below y x) above-once above-on above-one xs
greatest-is [] = refl
greatest-is (x ∷ []) = refl
greatest-is (x ∷ y ∷ ys) = ap (option_map (λ m. if below x m then m else x)) (greatest-is (y ∷ ys))

-- `min`.
pub min-unordered : Unordered Fun.Min
min-unordered xs ys p = on-items least xs ys (least-is xs ∙ earliest-perm below below-once below-on below-one p ∙ sym (least-is ys))

-- `max`.
pub max-unordered : Unordered Fun.Max
max-unordered xs ys p = on-items greatest xs ys (greatest-is xs ∙ earliest-perm (λ x y. below y x) above-once above-on above-one p ∙ sym (greatest-is ys))

-- Nor do they see repeats.
pub least-once : (xs : List Value) → least (sorted_once xs) ≡ least xs
least-once xs = least-is (sorted_once xs) ∙ earliest-once below below-once below-on below-one xs ∙ sym (least-is xs)

pub greatest-once : (xs : List Value) → greatest (sorted_once xs) ≡ greatest xs
greatest-once xs = greatest-is (sorted_once xs) ∙ earliest-once (λ x y. below y x) above-once above-on above-one xs ∙ sym (greatest-is xs)

-- The least and the greatest of the same items in another order.
pub least-perm : {xs ys : List Value} → Perm xs ys → least xs ≡ least ys
least-perm {xs} {ys} p = least-is xs ∙ earliest-perm below below-once below-on below-one p ∙ sym (least-is ys)

pub greatest-perm : {xs ys : List Value} → Perm xs ys → greatest xs ≡ greatest ys
greatest-perm {xs} {ys} p = greatest-is xs ∙ earliest-perm (λ x y. below y x) above-once above-on above-one p ∙ sym (greatest-is ys)
