-- Lists of members beside the lists of their values with positions: whatever looks at the order alone says the same of both.
use Rattle.std.proofs.Common.{◌≡◌, refl, sym, ap, ◌∙◌, suc, Bool, true, ◌&&◌, ◌||◌, not, if◌then◌else◌, List, [], ◌∷◌, ◌++◌, map, length}
use Rattle.std.specs.List.{list_all, list_any}
use Rattle.std.specs.Ordering.{is_eq, is_lt}
use Rattle.std.specs.declared.cmp.Ordering.{Ordering}
use Rattle.std.specs.declared.cmp.Ordering.TheVariants.{Less, Equal, Greater}
use Rattle.ess_semantics.specs.Values.{a_tuple, a_matrix, a_set, a_mset, a_function, a_relation, a_partition, a_record, Value, number, truth, item, node, Values, nil, cons, to_list, of_list, pair, from_of, to_of}
use Rattle.ess_semantics.specs.Order.{order, orders, same, below}
use Rattle.ess_semantics.specs.Collections.{holds, count, place_by, place, sorted_once, rises, rises_weakly, no_twice}
use Rattle.ess_semantics.specs.Membership.{same_list}
use Rattle.ess_semantics.specs.Positions.{with_positions, all_with_positions}
use Rattle.ess_semantics.proofs.Tests.{and-left, and-right, and-both}
use Rattle.ess_semantics.proofs.Sorting.{all-sorted_once}
use Rattle.ess_semantics.proofs.Orders.{to_list-of_list}
use Rattle.ess_repr_laws.proofs.OrderOfPositions.{Agree, lists-agree}

-- The values with positions of a list.
abbrev pub with_each : List Value → List Value
with_each xs = map with_positions xs

-- ---- the parts of a value

-- The list of a compound value's parts.
pub parts-with : (vs : Values) → to_list (all_with_positions vs) ≡ with_each (to_list vs)
parts-with nil = refl
parts-with (cons v vs) = ap (λ l. with_positions v ∷ l) (parts-with vs)

-- The same of a list as parts.
pub list-with : (xs : List Value) → all_with_positions (of_list xs) ≡ of_list (with_each xs)
list-with [] = refl
list-with (x ∷ xs) = ap (cons (with_positions x)) (list-with xs)

-- The first part of a pair.
pub from-with : (v : Value) → from_of (with_positions v) ≡ with_positions (from_of v)
from-with (pair a b) = refl
from-with (number n) = refl
from-with (truth b) = refl
from-with (item t k) = refl
from-with (node a_tuple nil) = refl
from-with (node a_tuple (cons a nil)) = refl
from-with (node a_tuple (cons a (cons b (cons c vs)))) = refl
from-with (node a_matrix vs) = refl
from-with (node a_set vs) = refl
from-with (node a_mset vs) = refl
from-with (node a_function vs) = refl
from-with (node a_relation vs) = refl
from-with (node a_partition vs) = refl
from-with (node (a_record fs) vs) = refl

-- The second part of a pair.
pub to-with : (v : Value) → to_of (with_positions v) ≡ with_positions (to_of v)
to-with (pair a b) = refl
to-with (number n) = refl
to-with (truth b) = refl
to-with (item t k) = refl
to-with (node a_tuple nil) = refl
to-with (node a_tuple (cons a nil)) = refl
to-with (node a_tuple (cons a (cons b (cons c vs)))) = refl
to-with (node a_matrix vs) = refl
to-with (node a_set vs) = refl
to-with (node a_mset vs) = refl
to-with (node a_function vs) = refl
to-with (node a_relation vs) = refl
to-with (node a_partition vs) = refl
to-with (node (a_record fs) vs) = refl

-- A list of parts.
pub map-with : (f : Value → Value) → ((v : Value) → f (with_positions v) ≡ with_positions (f v)) → (xs : List Value) →
    map f (with_each xs) ≡ with_each (map f xs)
map-with f h [] = refl
map-with f h (x ∷ xs) = ap (λ v. v ∷ map f (with_each xs)) (h x) ∙ ap (λ l. with_positions (f x) ∷ l) (map-with f h xs)

-- Two lists.
pub append-with : (xs ys : List Value) → with_each (xs ++ ys) ≡ with_each xs ++ with_each ys
append-with [] ys = refl
append-with (x ∷ xs) ys = ap (λ l. with_positions x ∷ l) (append-with xs ys)

-- A list of values with positions is as long.
pub length-with : (xs : List Value) → length (with_each xs) ≡ length xs
length-with [] = refl
length-with (x ∷ xs) = ap suc (length-with xs)

-- ---- tests of each value

-- Tests that agree on each value of a list.
pub all-with : (p f g : Value → Bool) → ((v : Value) → p v ≡ true → f (with_positions v) ≡ g v) → (xs : List Value) →
    list_all p xs ≡ true → list_all f (with_each xs) ≡ list_all g xs
all-with p f g h [] a = refl
all-with p f g h (x ∷ xs) a =
    ap (λ b. b && list_all f (with_each xs)) (h x (and-left (p x) (list_all p xs) a))
    ∙ ap (λ b. g x && b) (all-with p f g h xs (and-right (p x) (list_all p xs) a))

-- The same of some value.
pub any-with : (p f g : Value → Bool) → ((v : Value) → p v ≡ true → f (with_positions v) ≡ g v) → (xs : List Value) →
    list_all p xs ≡ true → list_any f (with_each xs) ≡ list_any g xs
any-with p f g h [] a = refl
any-with p f g h (x ∷ xs) a =
    ap (λ b. b || list_any f (with_each xs)) (h x (and-left (p x) (list_all p xs) a))
    ∙ ap (λ b. g x || b) (any-with p f g h xs (and-right (p x) (list_all p xs) a))

-- Where f holds of each value with positions.
pub all-there : (p f : Value → Bool) → ((v : Value) → p v ≡ true → f (with_positions v) ≡ true) → (xs : List Value) →
    list_all p xs ≡ true → list_all f (with_each xs) ≡ true
all-there p f h [] a = refl
all-there p f h (x ∷ xs) a =
    and-both (f (with_positions x)) (list_all f (with_each xs)) (h x (and-left (p x) (list_all p xs) a))
    (all-there p f h xs (and-right (p x) (list_all p xs) a))

-- ---- order

module _ (p q : Value → Bool) (agree : Agree p q) where
  -- Equal values.
  pub same-with : (v w : Value) → p v ≡ true → q w ≡ true → same (with_positions v) (with_positions w) ≡ same v w
  same-with v w h k = ap is_eq (agree v w h k)

  -- Lower values.
  pub below-with : (v w : Value) → p v ≡ true → q w ≡ true → below (with_positions v) (with_positions w) ≡ below v w
  below-with v w h k = ap is_lt (agree v w h k)

  -- Whether a value is in a list.
  pub holds-with : (xs : List Value) (w : Value) → list_all p xs ≡ true → q w ≡ true → holds (with_each xs) (with_positions w) ≡ holds xs w
  holds-with [] w h k = refl
  holds-with (x ∷ xs) w h k =
      ap (λ b. b || holds (with_each xs) (with_positions w)) (same-with x w (and-left (p x) (list_all p xs) h) k)
      ∙ ap (λ b. same x w || b) (holds-with xs w (and-right (p x) (list_all p xs) h) k)

  -- How often it is.
  pub count-with : (xs : List Value) (w : Value) → list_all p xs ≡ true → q w ≡ true → count (with_each xs) (with_positions w) ≡ count xs w
  count-with [] w h k = refl
  count-with (x ∷ xs) w h k =
      ap (λ b. if b then suc (count (with_each xs) (with_positions w)) else count (with_each xs) (with_positions w))
      (same-with x w (and-left (p x) (list_all p xs) h) k)
      ∙ ap (λ n. if same x w then suc n else n) (count-with xs w (and-right (p x) (list_all p xs) h) k)

module _ (p : Value → Bool) (agree : Agree p p) where
  -- A list rises where that of the values with positions does, compared by f.
  pub rises-with : (f : Value → Value) → ((v : Value) → f (with_positions v) ≡ with_positions (f v)) → (xs : List Value) →
      list_all (λ x. p (f x)) xs ≡ true →
      rises f (with_each xs) ≡ rises f xs
  rises-with f c [] h = refl
  rises-with f c (x ∷ []) h = refl
  rises-with f c (x ∷ y ∷ ys) h =
      ap (λ v. below v (f (with_positions y)) && rises f (with_each (y ∷ ys))) (c x)
      ∙ ap (λ w. below (with_positions (f x)) w && rises f (with_each (y ∷ ys))) (c y)
      ∙ ap (λ b. b && rises f (with_each (y ∷ ys)))
      (below-with p p agree (f x) (f y) (and-left (p (f x)) (list_all (λ x. p (f x)) (y ∷ ys)) h)
      (and-left (p (f y)) (list_all (λ x. p (f x)) ys) (and-right (p (f x)) (list_all (λ x. p (f x)) (y ∷ ys)) h)))
      ∙ ap (λ b. below (f x) (f y) && b) (rises-with f c (y ∷ ys) (and-right (p (f x)) (list_all (λ x. p (f x)) (y ∷ ys)) h))

  -- Whether a list rises with repeats.
  pub weakly-with : (xs : List Value) → list_all p xs ≡ true → rises_weakly (with_each xs) ≡ rises_weakly xs
  weakly-with [] h = refl
  weakly-with (x ∷ []) h = refl
  weakly-with (x ∷ y ∷ ys) h =
      ap (λ b. not b && rises_weakly (with_each (y ∷ ys)))
      (below-with p p agree y x (and-left (p y) (list_all p ys) (and-right (p x) (list_all p (y ∷ ys)) h)) (and-left (p x) (list_all p (y ∷ ys)) h))
      ∙ ap (λ b. not (below y x) && b) (weakly-with (y ∷ ys) (and-right (p x) (list_all p (y ∷ ys)) h))

  -- Whether no two items are equal, compared by f.
  pub twice-with : (f : Value → Value) → ((v : Value) → f (with_positions v) ≡ with_positions (f v)) → (xs : List Value) →
      list_all (λ x. p (f x)) xs ≡ true →
      no_twice f (with_each xs) ≡ no_twice f xs
  twice-with f c [] h = refl
  twice-with f c (x ∷ xs) h =
      ap (λ b. not b && no_twice f (with_each xs))
      (any-with (λ y. p (f y)) (λ y. same (f (with_positions x)) (f y)) (λ y. same (f x) (f y))
      (λ y k. ap (λ v. same v (f (with_positions y))) (c x) ∙ ap (same (with_positions (f x))) (c y) ∙ same-with p p agree (f x) (f y) (and-left (p (f x)) (list_all (λ x. p (f x)) xs) h) k)
      xs (and-right (p (f x)) (list_all (λ x. p (f x)) xs) h))
      ∙ ap (λ b. not (list_any (λ y. same (f x) (f y)) xs) && b) (twice-with f c xs (and-right (p (f x)) (list_all (λ x. p (f x)) xs) h))

  place-with : (v : Value) (xs : List Value) → p v ≡ true → list_all p xs ≡ true →
      place (with_positions v) (with_each xs) ≡ with_each (place v xs)
  place-with v [] h k = refl
  place-with v (x ∷ xs) h k =
      ap (λ o. place_by o (with_positions v) (with_positions x) (with_each xs) (place (with_positions v) (with_each xs)))
      (agree v x h (and-left (p x) (list_all p xs) k))
      ∙ ap (place_by (order v x) (with_positions v) (with_positions x) (with_each xs))
      (place-with v xs h (and-right (p x) (list_all p xs) k)) ∙ go (order v x) (place v xs)
    where
      go : (o : Ordering) (r : List Value) →
          place_by o (with_positions v) (with_positions x) (with_each xs) (with_each r) ≡ with_each (place_by o v x xs r)
      go Less r = refl
      go Equal r = refl
      go Greater r = refl

  -- Sorted, the values with positions are those of the sorted list.
  pub sorted-with : (xs : List Value) → list_all p xs ≡ true → sorted_once (with_each xs) ≡ with_each (sorted_once xs)
  sorted-with [] h = refl
  sorted-with (x ∷ xs) h =
      ap (place (with_positions x)) (sorted-with xs (and-right (p x) (list_all p xs) h))
      ∙ place-with x (sorted_once xs) (and-left (p x) (list_all p xs) h) (all-sorted_once p xs ∙ and-right (p x) (list_all p xs) h)

  -- Whether two lists are equal.
  pub lists-with : (xs ys : List Value) → list_all p xs ≡ true → list_all p ys ≡ true →
      same_list (with_each xs) (with_each ys) ≡ same_list xs ys
  lists-with xs ys h k =
      ap (λ vs. is_eq (orders vs (of_list (with_each ys)))) (sym (list-with xs))
      ∙ ap (λ ws. is_eq (orders (all_with_positions (of_list xs)) ws)) (sym (list-with ys))
      ∙ ap is_eq
      (lists-agree p p agree (of_list xs) (of_list ys) (ap (list_all p) (to_list-of_list xs) ∙ h) (ap (list_all p) (to_list-of_list ys) ∙ k))
