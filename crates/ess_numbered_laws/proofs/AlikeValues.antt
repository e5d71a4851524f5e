-- Values alike: indices lead to matrices with the same items.
use Rattle.std.proofs.Common.{◌≡◌, refl, sym, ap, subst, ℕ, zero, suc, Bool, true, false, if◌then◌else◌, List, [], ◌∷◌, length, pos, Option, Some, None, option_map}
use Rattle.std.specs.Prelude.{IsTrue, is_some, nat_eq}
use Rattle.ess_semantics.specs.Lists.{and_then, when}
use Rattle.ess_semantics.specs.Values.{Value, number, matrix, of_list, items_of}
use Rattle.ess_semantics.specs.Order.{same}
use Rattle.ess_semantics.specs.Trees.{by_value, index}
use Rattle.ess_semantics.specs.Operators.{at_index, item_at, numbers_from, list_value, value_of_node}
use Rattle.ess_semantics.specs.Meaning.{matrix_value}

-- ---- two options, two lists

-- Both are there, and P holds of them, or neither is.
abbrev pub Both : (Value → Value → Type 0) → Option Value → Option Value → Type 0
Both P (Some v) (Some w) = P v w
Both P None None = Unit {0}
Both P o p = ⊥

-- As many values, and P holds of each pair.
abbrev pub Pairs : (Value → Value → Type 0) → List Value → List Value → Type 0
Pairs P [] [] = Unit {0}
Pairs P (x ∷ xs) (y ∷ ys) = P x y × Pairs P xs ys
Pairs P xs ys = ⊥

-- The same of lists that are there.
abbrev pub BothPairs : (Value → Value → Type 0) → Option (List Value) → Option (List Value) → Type 0
BothPairs P (Some xs) (Some ys) = Pairs P xs ys
BothPairs P None None = Unit {0}
BothPairs P o p = ⊥

-- ---- values

-- As many indices lead to matrices with the same items.
abbrev pub Alike : ℕ → Value → Value → Type 0
Alike zero v w = items_of v ≡ items_of w
Alike (suc k) v w = (i : Value) → Both (Alike k) (at_index v i) (at_index w i)

both-itself : (P : Value → Value → Type 0) → ((v : Value) → P v v) → (o : Option Value) → Both P o o
both-itself P h None = tt
both-itself P h (Some v) = h v

alike-itself : (k : ℕ) (v : Value) → Alike k v v
alike-itself zero v = refl
alike-itself (suc k) v = λ i. both-itself (Alike k) (alike-itself k) (at_index v i)

-- A value is alike to itself.
pub alike-same : (k : ℕ) (o : Option Value) → Both (Alike k) o o
alike-same k o = both-itself (Alike k) (alike-itself k) o

-- What is alike at no index has the same items.
pub alike-items : (o p : Option Value) → Both (Alike zero) o p → option_map items_of p ≡ option_map items_of o
alike-items None None h = refl
alike-items (Some v) (Some w) h = ap Some (sym h)
alike-items None (Some w) h = absurd h
alike-items (Some v) None h = absurd h

-- ---- lists

module _ (P : Value → Value → Type 0) where
  -- One more pair.
  pub one-more-pair : (o p : Option Value) (q r : Option (List Value)) → Both P o p → BothPairs P q r →
      BothPairs P (and_then o (λ x. option_map (λ xs. x ∷ xs) q)) (and_then p (λ x. option_map (λ xs. x ∷ xs) r))
  one-more-pair None None q r h k = tt
  one-more-pair (Some v) (Some w) None None h k = tt
  one-more-pair (Some v) (Some w) (Some xs) (Some ys) h k = (h, k)
  one-more-pair (Some v) (Some w) None (Some ys) h k = absurd k
  one-more-pair (Some v) (Some w) (Some xs) None h k = absurd k
  one-more-pair None (Some w) q r h k = absurd h
  one-more-pair (Some v) None q r h k = absurd h

  -- There are as many.
  as-many : (xs ys : List Value) → Pairs P xs ys → length xs ≡ length ys
  as-many [] [] h = refl
  as-many (x ∷ xs) (y ∷ ys) h = ap suc (as-many xs ys h.1)
  as-many [] (y ∷ ys) h = absurd h
  as-many (x ∷ xs) [] h = absurd h

  same-numbers : (k : ℕ) (xs ys : List Value) → Pairs P xs ys → numbers_from k xs ≡ numbers_from k ys
  same-numbers k [] [] h = refl
  same-numbers k (x ∷ xs) (y ∷ ys) h = ap (λ l. number (pos k) ∷ l) (same-numbers (suc k) xs ys h.1)
  same-numbers k [] (y ∷ ys) h = absurd h
  same-numbers k (x ∷ xs) [] h = absurd h

  -- Those at an index.
  pairs-at : (is xs ys : List Value) → Pairs P xs ys → (i : Value) → Both P (item_at (of_list is) (of_list xs) i)
      (item_at (of_list is) (of_list ys) i)
  pairs-at [] xs ys h i = tt
  pairs-at (j ∷ is) [] [] h i = tt
  pairs-at (j ∷ is) (x ∷ xs) (y ∷ ys) h i = go (same j i) (pairs-at is xs ys h.1 i)
    where
      go : (b : Bool) → Both P (item_at (of_list is) (of_list xs) i) (item_at (of_list is) (of_list ys) i) →
          Both P (if b then Some x else item_at (of_list is) (of_list xs) i) (if b then Some y else item_at (of_list is) (of_list ys) i)
      go true k = h.0
      go false k = k
  pairs-at (j ∷ is) [] (y ∷ ys) h i = absurd h
  pairs-at (j ∷ is) (x ∷ xs) [] h i = absurd h

-- ---- matrices, and steps into them

-- Lists of values alike are so, one index further.
pub lists-alike : (k : ℕ) (o p : Option (List Value)) → BothPairs (Alike k) o p →
    Both (Alike (suc k)) (and_then o (λ xs. Some (list_value xs))) (and_then p (λ xs. Some (list_value xs)))
lists-alike k None None h = tt
lists-alike k (Some xs) (Some ys) h =
    λ i. subst (λ is. Both (Alike k) (item_at (of_list (numbers_from 1 xs)) (of_list xs) i) (item_at (of_list is) (of_list ys) i))
    (same-numbers (Alike k) 1 xs ys h) (pairs-at (Alike k) (numbers_from 1 xs) xs ys h i)
lists-alike k None (Some ys) h = absurd h
lists-alike k (Some xs) None h = absurd h

-- And so are matrices over one domain.
pub matrices-alike : (k : ℕ) (m : Option (List Value)) (o p : Option (List Value)) → BothPairs (Alike k) o p →
    Both (Alike (suc k)) (and_then o (matrix_value m)) (and_then p (matrix_value m))
matrices-alike k m None None h = tt
matrices-alike k None (Some xs) (Some ys) h = tt
matrices-alike k (Some is) (Some xs) (Some ys) h =
    subst (λ n. Both (Alike (suc k)) (when (nat_eq (length is) (length xs)) (matrix (of_list is) (of_list xs)))
    (when (nat_eq (length is) n) (matrix (of_list is) (of_list ys)))) (as-many (Alike k) xs ys h) (go (nat_eq (length is) (length xs)))
  where
    go : (b : Bool) → Both (Alike (suc k)) (when b (matrix (of_list is) (of_list xs))) (when b (matrix (of_list is) (of_list ys)))
    go true = pairs-at (Alike k) is xs ys h
    go false = tt
matrices-alike k m None (Some ys) h = absurd h
matrices-alike k m (Some xs) None h = absurd h

-- What one index picks is alike.
pub picked-alike : (k : ℕ) (o p i : Option Value) → Both (Alike (suc k)) o p →
    Both (Alike k) (value_of_node (index (by_value ∷ [])) (o ∷ i ∷ [])) (value_of_node (index (by_value ∷ [])) (p ∷ i ∷ []))
picked-alike k None None i h = tt
picked-alike k (Some v) (Some w) None h = tt
picked-alike k (Some v) (Some w) (Some u) h = go (at_index v u) (at_index w u) (h u)
  where
    go : (o p : Option Value) → Both (Alike k) o p → Both (Alike k) (and_then o (λ x. Some x)) (and_then p (λ x. Some x))
    go None None h = tt
    go (Some x) (Some y) h = h
    go None (Some y) h = absurd h
    go (Some x) None h = absurd h
picked-alike k None (Some w) i h = absurd h
picked-alike k (Some v) None i h = absurd h

-- A matrix that is there has the items of the list.
pub matrix-as-list : (m o : Option (List Value)) → IsTrue (is_some (and_then o (matrix_value m))) →
    Both (Alike zero) (and_then o (matrix_value m)) (and_then o (λ xs. Some (list_value xs)))
matrix-as-list m None t = cc
matrix-as-list None (Some xs) t = cc
matrix-as-list (Some is) (Some xs) t = go (nat_eq (length is) (length xs)) t
  where
    go : (b : Bool) → IsTrue (is_some (when b (matrix (of_list is) (of_list xs)))) →
        Both (Alike zero) (when b (matrix (of_list is) (of_list xs))) (Some (list_value xs))
    go true t = refl
    go false t = cc
