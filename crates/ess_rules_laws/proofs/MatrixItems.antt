-- Two matrices are equal where their indices and their items at each index are.
use Rattle.std.proofs.Common.{◌≡◌, refl, sym, ap, ◌∙◌, subst, zero, suc, Bool, true, false, ◌&&◌, if◌then◌else◌, List, [], ◌∷◌, length, Option, Some, arith}
use Rattle.std.proofs.lemmas.Bool.{eqb-true}
use Rattle.std.specs.List.{list_all}
use Rattle.std.specs.Ordering.{is_eq}
use Rattle.ess_semantics.specs.declared.words.Op2.{Op2}
use Rattle.ess_semantics.specs.Values.{a_matrix, Value, Values, nil, cons, matrix, tuple, to_list, of_list, itself}
use Rattle.ess_semantics.specs.Order.{same, orders}
use Rattle.ess_semantics.specs.Collections.{holds, rises}
use Rattle.ess_semantics.specs.Trees.{binary}
use Rattle.ess_semantics.specs.Types.{Ty, compound2, is_bool}
use Rattle.ess_semantics.specs.TypeMembers.{is_of}
use Rattle.ess_semantics.specs.Meaning.{TypeEntry}
use Rattle.ess_semantics.specs.Operators.{as_truth, item_at, value_of_node, false_where_undefined}
use Rattle.ess_semantics.proofs.Tests.{and-left, and-right, and-both, both-ways}
use Rattle.ess_semantics.proofs.Orders.{of_list-to_list, same-itself, same-equal}
use Rattle.ess_semantics.proofs.Sorting.{Distinct, sorted-of, one-sorted-list, all-holds, holds-all}
use Rattle.ess_semantics.proofs.Repeats.{sorted-distinct}
use Rattle.ess_rules_laws.proofs.ComponentRules.{then-equal, of-mark}

-- Tests that agree on the items of a list.
pub all-agree : (f g : Value → Bool) (xs : List Value) → ((v : Value) → holds xs v ≡ true → f v ≡ g v) → list_all f xs ≡ list_all g xs
all-agree f g xs h = both-ways (list_all f xs) (list_all g xs)
    (λ p. holds-all g xs (λ v q. sym (h v q) ∙ all-holds f xs v p q)) (λ p. holds-all f xs (λ v q. h v q ∙ all-holds g xs v p q))

-- A matrix of items of a type.
pub record MatrixOf (p : Bool) (es : List TypeEntry) (t : Ty) (v : Value) : Type 0 where
  pub indices : Values
  pub parts : Values
  pub is_matrix : v ≡ matrix indices parts
  pub rising : rises itself (to_list indices) ≡ true
  pub as_many : length (to_list indices) ≡ length (to_list parts)
  pub typed : list_all (is_of p es t) (to_list parts) ≡ true

-- A value of a type of matrices.
pub matrix-value : (p : Bool) (es : List TypeEntry) (i t : Ty) (v : Value) → is_of p es (compound2 a_matrix i t) v ≡ true →
    MatrixOf p es t v
matrix-value p es i t (matrix is xs) h = let a = and-left _ _ (and-left _ _ h) in record {
  indices = is;
  parts = xs;
  is_matrix = refl;
  rising = and-left _ _ a;
  as_many = eqb-true _ _ (and-right _ _ a);
  typed = and-right _ _ h;
}
matrix-value p es i t _ h = cc

-- Whether two items of types t and u are equal, as the equation of them says it.
abbrev pub equal_options : Ty → Ty → Option Value → Option Value → Bool
equal_options t u o q = as_truth (false_where_undefined true (value_of_node (binary Op2.Eq)
    (false_where_undefined (is_bool (Some t)) o ∷ false_where_undefined (is_bool (Some u)) q ∷ [])))

-- Equality of matrices by their parts.
pub parted : (is js xs ys : Values) → same (matrix is xs) (matrix js ys) ≡ same (tuple is) (tuple js) && is_eq (orders xs ys)
parted is js xs ys = then-equal (orders is js) _
    ∙ ap (λ b. is_eq (orders is js) && b) (then-equal (orders xs ys) _ ∙ right (is_eq (orders xs ys)))
  where
    right : (b : Bool) → b && true ≡ b
    right true = refl
    right false = refl

module _ (p : Bool) (es : List TypeEntry) (t u : Ty) where
  both-typed : (x y : Value) → is_of p es t x ≡ true → is_of p es u y ≡ true → equal_options t u (Some x) (Some y) ≡ same x y
  both-typed x y h k =
      ap (λ o. as_truth (false_where_undefined true
      (value_of_node (binary Op2.Eq) (o ∷ false_where_undefined (is_bool (Some u)) (Some y) ∷ [])))) (of-mark p es t x h)
      ∙ ap (λ o. as_truth (false_where_undefined true (value_of_node (binary Op2.Eq) (Some x ∷ o ∷ [])))) (of-mark p es u y k)

  -- The items at all indices are equal where the lists of items are.
  pub items-equal : (is xs ys : Values) → Distinct (to_list is) → length (to_list is) ≡ length (to_list xs) →
      length (to_list is) ≡ length (to_list ys) →
      list_all (is_of p es t) (to_list xs) ≡ true → list_all (is_of p es u) (to_list ys) ≡ true →
      list_all (λ i. equal_options t u (item_at is xs i) (item_at is ys i)) (to_list is) ≡ is_eq (orders xs ys)
  items-equal nil nil nil d m n h k = refl
  items-equal nil (cons x xs) ys d m n h k = absurd (let z : zero ≡ suc (length (to_list xs)) = m in omega arith)
  items-equal nil nil (cons y ys) d m n h k = absurd (let z : zero ≡ suc (length (to_list ys)) = n in omega arith)
  items-equal (cons i is) nil ys d m n h k = absurd (let z : suc (length (to_list is)) ≡ zero = m in omega arith)
  items-equal (cons i is) (cons x xs) nil d m n h k = absurd (let z : suc (length (to_list is)) ≡ zero = n in omega arith)
  items-equal (cons i is) (cons x xs) (cons y ys) d m n h k =
      ap (λ b. b && list_all There (to_list is)) here
      ∙ ap (λ b. same x y && b)
      (all-agree There Behind (to_list is) behind
      ∙ items-equal is xs ys d.1 (omega arith) (omega arith) (and-right _ _ h) (and-right _ _ k))
      ∙ sym (then-equal _ (orders xs ys))
    where
      There : Value → Bool
      There j = equal_options t u (item_at (cons i is) (cons x xs) j) (item_at (cons i is) (cons y ys) j)

      Behind : Value → Bool
      Behind j = equal_options t u (item_at is xs j) (item_at is ys j)

      here : There i ≡ same x y
      here = ap (λ b. equal_options t u (if b then Some x else item_at is xs i) (if b then Some y else item_at is ys i)) (same-itself i)
          ∙ both-typed x y (and-left _ _ h) (and-left _ _ k)

      behind : (j : Value) → holds (to_list is) j ≡ true → There j ≡ Behind j
      behind j q = ap (λ b. equal_options t u (if b then Some x else item_at is xs j) (if b then Some y else item_at is ys j))
          (go (same i j) refl)
        where
          go : (b : Bool) → same i j ≡ b → b ≡ false
          go false r = refl
          go true r = let e : holds (to_list is) i ≡ true = ap (holds (to_list is)) (same-equal i j r) ∙ q in let f = d.0 in cc

  -- Two matrices with one list of indices.
  pub equal-there : (is xs ys : Values) → rises itself (to_list is) ≡ true → length (to_list is) ≡ length (to_list xs) →
      length (to_list is) ≡ length (to_list ys) →
      list_all (is_of p es t) (to_list xs) ≡ true → list_all (is_of p es u) (to_list ys) ≡ true →
      same (matrix is xs) (matrix is ys) ≡ list_all (λ i. equal_options t u (item_at is xs i) (item_at is ys i)) (to_list is)
  equal-there is xs ys r m n h k =
      parted is is xs ys ∙ ap (λ b. b && is_eq (orders xs ys)) (same-itself (tuple is))
      ∙ sym (items-equal is xs ys (sorted-distinct (to_list is) (sorted-of (to_list is) r)) m n h k)

-- Two matrices are equal where each index of one is one of the other and the items at the indices of the first are equal.
pub matrices-equal : (p : Bool) (es : List TypeEntry) (t u : Ty) (is js xs ys : Values) → rises itself (to_list is) ≡ true →
    rises itself (to_list js) ≡ true →
    length (to_list is) ≡ length (to_list xs) → length (to_list js) ≡ length (to_list ys) →
    list_all (is_of p es t) (to_list xs) ≡ true → list_all (is_of p es u) (to_list ys) ≡ true →
    same (matrix is xs) (matrix js ys)
    ≡ (list_all (holds (to_list js)) (to_list is) && list_all (holds (to_list is)) (to_list js)) &&
    list_all (λ i. equal_options t u (item_at is xs i) (item_at js ys i)) (to_list is)
matrices-equal p es t u is js xs ys r s m n h k = go
    (list_all (holds (to_list js)) (to_list is) && list_all (holds (to_list is)) (to_list js)) refl
  where
    go : (b : Bool) → list_all (holds (to_list js)) (to_list is) && list_all (holds (to_list is)) (to_list js) ≡ b →
        same (matrix is xs) (matrix js ys) ≡ b && list_all (λ i. equal_options t u (item_at is xs i) (item_at js ys i)) (to_list is)
    go true q =
        let e : to_list is ≡ to_list js = one-sorted-list (to_list is) (to_list js) r s
        (λ v. both-ways (holds (to_list is) v) (holds (to_list js) v)
        (λ z. all-holds (holds (to_list js)) (to_list is) v (and-left _ _ q) z)
        (λ z. all-holds (holds (to_list is)) (to_list js) v (and-right _ _ q) z)) in
        let f : is ≡ js = sym (of_list-to_list is) ∙ ap of_list e ∙ of_list-to_list js in
        subst (λ z. same (matrix is xs) (matrix z ys) ≡ list_all (λ i. equal_options t u (item_at is xs i) (item_at z ys i)) (to_list is)) f
        (equal-there p es t u is xs ys r m (ap length e ∙ n) h k)
    go false q = never (same (matrix is xs) (matrix js ys)) refl
      where
        never : (b : Bool) → same (matrix is xs) (matrix js ys) ≡ b → b ≡ false
        never false z = refl
        never true z =
            let e : same (tuple is) (tuple js)
            ≡ true = and-left (same (tuple is) (tuple js)) (is_eq (orders xs ys)) (sym (parted is js xs ys) ∙ z) in
            let l : to_list is ≡ to_list js = listed is js (same-equal (tuple is) (tuple js) e) in
            let a = subst (λ y. list_all (holds y) (to_list is) && list_all (holds (to_list is)) y ≡ true) l
            (and-both (list_all (holds (to_list is)) (to_list is)) (list_all (holds (to_list is)) (to_list is))
            (holds-all (holds (to_list is)) (to_list is) (λ v y. y)) (holds-all (holds (to_list is)) (to_list is) (λ v y. y))) in
            cc
          where
            listed : (is js : Values) → tuple is ≡ tuple js → to_list is ≡ to_list js
            listed is js e = ap parts e
              where
                parts : Value → List Value
                parts (tuple vs) = to_list vs
                parts v = []
