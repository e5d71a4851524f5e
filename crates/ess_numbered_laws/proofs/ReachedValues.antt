-- How many items the values have at most that steps reach: of parts of values, and of what operators pick.
use Rattle.std.proofs.Common.{◌≡◌, refl, ap, ◌∙◌, subst, ℕ, zero, ◌≤◌, Bool, true, false, not, if◌then◌else◌, List, [], ◌∷◌, length, Option, Some, None, arith}
use Rattle.std.specs.List.{list_all}
use Rattle.std.proofs.lemmas.Bool.{leb-true, le-leb}
use Rattle.ess_semantics.specs.declared.words.Fun.{Fun}
use Rattle.ess_semantics.specs.Lists.{and_then, when}
use Rattle.ess_semantics.specs.Values.{a_function, a_relation, Value, truth, node, Values, nil, cons, tuple, pair, matrix, to_list, of_list, from_of, to_of, items_of}
use Rattle.ess_semantics.specs.Order.{same}
use Rattle.ess_semantics.specs.Collections.{holds, value_at, function_of, has_double_argument, sorted_once}
use Rattle.ess_semantics.specs.Membership.{is_pair}
use Rattle.ess_semantics.specs.Trees.{Step, by_value, to_component, to_field}
use Rattle.ess_semantics.specs.Operators.{as_truth, misfit, at_component, at_field, at_index, item_at, path_value, value_of_application, value_of_word, false_where_undefined}
use Rattle.ess_semantics.proofs.Orders.{to_list-of_list}
use Rattle.ess_semantics.proofs.Sorting.{all-sorted_once}
use Rattle.ess_semantics.proofs.Tests.{and-left, and-right, and-both}
use Rattle.ess_numbered_laws.specs.MostItems.{Pick, an_item, a_result, a_component, a_field, pick_of}
use Rattle.ess_numbered_laws.specs.BoundLaws.{reach_at_most}

-- ---- more items

-- A weaker test.
pub all-weaker : (f g : Value → Bool) (xs : List Value) → ((v : Value) → f v ≡ true → g v ≡ true) → list_all f xs ≡ true → list_all g xs
    ≡ true
all-weaker f g [] h k = refl
all-weaker f g (x ∷ xs) h k = and-both (g x) (list_all g xs) (h x (and-left (f x) (list_all f xs) k))
    (all-weaker f g xs h (and-right (f x) (list_all f xs) k))

-- A greater number is enough, too.
pub reach-more : (ps : List Pick) (m n : ℕ) → m ≤ n → (v : Value) → reach_at_most ps m v ≡ true → reach_at_most ps n v ≡ true
reach-more [] m n h v k = let l : length (items_of v) ≤ m = leb-true (length (items_of v)) m k in le-leb (length (items_of v)) n
    (omega arith)
reach-more (an_item ∷ ps) m n h v k = all-weaker (reach_at_most ps m) (reach_at_most ps n) (items_of v) (λ w. reach-more ps m n h w) k
reach-more (a_result ∷ ps) m n h v k =
    all-weaker (λ p. reach_at_most ps m (to_of p)) (λ p. reach_at_most ps n (to_of p)) (items_of v) (λ w. reach-more ps m n h (to_of w)) k
reach-more (a_component i ∷ ps) m n h v k = reach-more ps m n h (at_component v i) k
reach-more (a_field a ∷ ps) m n h v k = reach-more ps m n h (at_field v a) k

-- A truth value has no items, and no parts with items.
pub reach-truth : (ps : List Pick) (n : ℕ) (b : Bool) → reach_at_most ps n (truth b) ≡ true
reach-truth [] n b = le-leb zero n (omega arith)
reach-truth (an_item ∷ ps) n b = refl
reach-truth (a_result ∷ ps) n b = refl
reach-truth (a_component i ∷ ps) n b = reach-truth ps n false
reach-truth (a_field a ∷ ps) n b = reach-truth ps n false

-- So a Boolean has none.
pub reach-marked : (ps : List Pick) (n : ℕ) (b : Bool) (o : Option Value) (v : Value) → false_where_undefined b o ≡ Some v →
    ((w : Value) → o ≡ Some w → reach_at_most ps n w ≡ true) → reach_at_most ps n v ≡ true
reach-marked ps n false o v e h = h v e
reach-marked ps n true o v e h = subst (λ w. reach_at_most ps n w ≡ true) (let z : truth (as_truth o) ≡ v = cc in z)
    (reach-truth ps n (as_truth o))

-- ---- what is picked

-- An item of a matrix at an index.
item-all : (f : Value → Bool) (is xs : Values) (i v : Value) → list_all f (to_list xs) ≡ true → item_at is xs i ≡ Some v → f v ≡ true
item-all f nil xs i v h e = cc
item-all f (cons j js) nil i v h e = cc
item-all f (cons j js) (cons x xs) i v h e = go (same j i) e (λ q. item-all f js xs i v (and-right (f x) (list_all f (to_list xs)) h) q)
  where
    go : (b : Bool) → (if b then Some x else item_at js xs i) ≡ Some v → (item_at js xs i ≡ Some v → f v ≡ true) → f v ≡ true
    go true q r = subst (λ w. f w ≡ true) (let z : x ≡ v = cc in z) (and-left (f x) (list_all f (to_list xs)) h)
    go false q r = r q

index-all : (f : Value → Bool) (w i v : Value) → list_all f (items_of w) ≡ true → at_index w i ≡ Some v → f v ≡ true
index-all f (matrix is xs) i v h e = item-all f is xs i v h e
index-all f _ i v h e = cc

-- The value of a function at an argument.
value-all : (f : Value → Bool) (ps : List Value) (x v : Value) → list_all (λ p. f (to_of p)) ps ≡ true → value_at ps x ≡ Some v → f v ≡ true
value-all f [] x v h e = cc
value-all f (p ∷ ps) x v h e =
    go (same (from_of p) x) e (λ q. value-all f ps x v (and-right (f (to_of p)) (list_all (λ p. f (to_of p)) ps) h) q)
  where
    go : (b : Bool) → (if b then Some (to_of p) else value_at ps x) ≡ Some v → (value_at ps x ≡ Some v → f v ≡ true) → f v ≡ true
    go true q r = subst (λ w. f w ≡ true) (let z : to_of p ≡ v = cc in z) (and-left (f (to_of p)) (list_all (λ p. f (to_of p)) ps) h)
    go false q r = r q

reach-misfit : (ps : List Pick) (n : ℕ) (v : Value) → Some misfit ≡ Some v → reach_at_most ps n v ≡ true
reach-misfit ps n v e = subst (λ w. reach_at_most ps n w ≡ true) (let z : misfit ≡ v = cc in z) (reach-truth ps n false)

-- What an index picks.
pub reach-index : (q : Step) (ps : List Pick) (n : ℕ) (w : Value) (is : List Value) (v : Value) → reach_at_most (pick_of q ∷ ps) n w
    ≡ true →
    path_value w (q ∷ []) is ≡ Some v → reach_at_most ps n v ≡ true
reach-index by_value ps n w [] v h e = reach-misfit ps n v e
reach-index by_value ps n w (i ∷ []) v h e = go (at_index w i) refl e
  where
    go : (o : Option Value) → at_index w i ≡ o → and_then o (λ u. Some u) ≡ Some v → reach_at_most ps n v ≡ true
    go None q e = cc
    go (Some u) q e = subst (λ y. reach_at_most ps n y ≡ true) (let z : u ≡ v = cc in z) (index-all (reach_at_most ps n) w i u h q)
reach-index by_value ps n w (i ∷ j ∷ js) v h e = go (at_index w i) e
  where
    go : (o : Option Value) → and_then o (λ u. Some misfit) ≡ Some v → reach_at_most ps n v ≡ true
    go None e = cc
    go (Some u) e = reach-misfit ps n v e
reach-index (to_component k) ps n w [] v h e = subst (λ y. reach_at_most ps n y ≡ true) (let z : at_component w k ≡ v = cc in z) h
reach-index (to_component k) ps n w (i ∷ is) v h e = reach-misfit ps n v e
reach-index (to_field a) ps n w [] v h e = subst (λ y. reach_at_most ps n y ≡ true) (let z : at_field w a ≡ v = cc in z) h
reach-index (to_field a) ps n w (i ∷ is) v h e = reach-misfit ps n v e

-- What an application picks.
pub reach-application : (ps : List Pick) (n : ℕ) (w : Value) (xs : List Value) (v : Value) → reach_at_most (a_result ∷ ps) n w ≡ true →
    value_of_application w xs ≡ Some v → reach_at_most ps n v ≡ true
reach-application ps n (node a_function qs) (x ∷ []) v h e = value-all (reach_at_most ps n) (to_list qs) x v h e
reach-application ps n (node a_relation qs) xs v h e =
    subst (λ y. reach_at_most ps n y ≡ true) (let z : truth (holds (to_list qs) (tuple (of_list xs))) ≡ v = cc in z)
    (reach-truth ps n (holds (to_list qs) (tuple (of_list xs))))
reach-application ps n _ xs v h e = cc

-- What `image` picks.
pub reach-image : (ps : List Pick) (n : ℕ) (w : Value) (xs : List Value) (v : Value) → reach_at_most (a_result ∷ ps) n w ≡ true →
    value_of_word Fun.Image (w ∷ xs) ≡ Some v → reach_at_most ps n v ≡ true
reach-image ps n w [] v h e = reach-misfit ps n v e
reach-image ps n w (x ∷ []) v h e = value-all (reach_at_most ps n) (items_of w) x v h e
reach-image ps n w (x ∷ y ∷ ys) v h e = reach-misfit ps n v e

-- ---- function literals

second-of : (f : Value → Bool) (xs : List Value) → list_all is_pair xs ≡ true → list_all (λ p. f (at_component p 2)) xs ≡ true →
    list_all (λ p. f (to_of p)) xs ≡ true
second-of f [] h k = refl
second-of f (x ∷ xs) h k = and-both (f (to_of x)) (list_all (λ p. f (to_of p)) xs)
    (at x (and-left (is_pair x) (list_all is_pair xs) h) (and-left (f (at_component x 2)) (list_all (λ p. f (at_component p 2)) xs) k))
    (second-of f xs (and-right (is_pair x) (list_all is_pair xs) h) (and-right (f (at_component x 2))
    (list_all (λ p. f (at_component p 2)) xs) k))
  where
    at : (x : Value) → is_pair x ≡ true → f (at_component x 2) ≡ true → f (to_of x) ≡ true
    at (pair a b) h k = k
    at _ h k = cc

-- The second parts of the pairs are the results.
pub reach-function : (ps : List Pick) (n : ℕ) (xs : List Value) (v : Value) → list_all is_pair xs ≡ true →
    list_all (reach_at_most (a_component 2 ∷ ps) n) xs ≡ true → function_of xs ≡ Some v → reach_at_most (a_result ∷ ps) n v ≡ true
reach-function ps n xs v h k e = go (has_double_argument xs) e
  where
    all : list_all (λ p. reach_at_most ps n (to_of p)) (to_list (of_list (sorted_once xs))) ≡ true
    all = ap (list_all (λ p. reach_at_most ps n (to_of p))) (to_list-of_list (sorted_once xs))
        ∙ all-sorted_once (λ p. reach_at_most ps n (to_of p)) xs ∙ second-of (reach_at_most ps n) xs h k

    go : (b : Bool) → when (not b) (node a_function (of_list (sorted_once xs))) ≡ Some v → reach_at_most (a_result ∷ ps) n v ≡ true
    go true e = cc
    go false e = subst (λ y. reach_at_most (a_result ∷ ps) n y ≡ true) (let z : node a_function (of_list (sorted_once xs)) ≡ v = cc in z)
        all
