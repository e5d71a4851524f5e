-- The order of values is total, and Equal only at equal values. So are the orders of lists of numbers and of cells.
use Rattle.std.proofs.Common.{◌≡◌, refl, sym, ap, ◌∙◌, true, false, List, [], ◌∷◌, ℤ}
use Rattle.std.specs.Cmp.{IsTotalOrder, bool_cmp_total}
use Rattle.std.specs.Cmp.Lexicographic.{slice_cmp}
use Rattle.std.specs.Ordering.{nat_cmp, int_cmp, bool_cmp, ordering_then, ordering_reverse, is_eq}
use Rattle.std.proofs.lemmas.Cmp.{nat_cmp_total, int_cmp_total, lists_total, tied_itself}
use Rattle.std.proofs.lemmas.Map.Lookups.{CmpEqualImpliesEq, exact_unsigned, exact_signed}
use Rattle.std.specs.declared.cmp.Ordering.{Ordering}
use Rattle.std.specs.declared.cmp.Ordering.TheVariants.{Less, Equal, Greater}
use Rattle.ess_semantics.specs.Values.{Kind, a_tuple, a_matrix, a_set, a_mset, a_function, a_relation, a_partition, a_record, Value, number, truth, item, node, Values, nil, cons, to_list, of_list}
use Rattle.ess_semantics.specs.Order.{order_text, order_texts, order_ints, kind_rank, kind_fields, order_kind, order, orders, same, same_int, same_ints}
use Rattle.ess_semantics.specs.Cells.{order_rows}

-- ---- values as lists

pub of_list-to_list : (xs : Values) → of_list (to_list xs) ≡ xs
of_list-to_list nil = refl
of_list-to_list (cons x xs) = ap (cons x) (of_list-to_list xs)

pub to_list-of_list : (xs : List Value) → to_list (of_list xs) ≡ xs
to_list-of_list [] = refl
to_list-of_list (x ∷ xs) = ap (λ ys. x ∷ ys) (to_list-of_list xs)

-- ---- Equal only at equal values

pub then-equal : {A : Type 0} (o p : Ordering) → ordering_then o p ≡ Equal → (o ≡ Equal → p ≡ Equal → A) → A
then-equal Less p e k = cc
then-equal Equal p e k = k refl e
then-equal Greater p e k = cc

pub lists_exact : {A : Type 0} {c : A → A → Ordering} → CmpEqualImpliesEq c → CmpEqualImpliesEq (slice_cmp c)
lists_exact h [] [] e = refl
lists_exact h [] (y ∷ ys) e = cc
lists_exact h (x ∷ xs) [] e = cc
lists_exact {c = c} h (x ∷ xs) (y ∷ ys) e =
    then-equal (c x y) (slice_cmp c xs ys) e (λ p q. ap (λ v. v ∷ xs) (h x y p) ∙ ap (λ vs. y ∷ vs) (lists_exact h xs ys q))

pub text_exact : CmpEqualImpliesEq order_text
text_exact = lists_exact exact_unsigned

pub texts_exact : CmpEqualImpliesEq order_texts
texts_exact = lists_exact text_exact

pub ints_exact : CmpEqualImpliesEq order_ints
ints_exact = lists_exact exact_signed

pub rows_exact : CmpEqualImpliesEq order_rows
rows_exact = lists_exact ints_exact

kind_exact : CmpEqualImpliesEq order_kind
kind_exact a_tuple a_tuple e = refl
kind_exact a_matrix a_matrix e = refl
kind_exact a_set a_set e = refl
kind_exact a_mset a_mset e = refl
kind_exact a_function a_function e = refl
kind_exact a_relation a_relation e = refl
kind_exact a_partition a_partition e = refl
kind_exact (a_record fs) (a_record gs) e = ap a_record (texts_exact fs gs e)
kind_exact _ _ e = cc

bool_exact : CmpEqualImpliesEq bool_cmp
bool_exact true true e = refl
bool_exact false false e = refl
bool_exact true false e = cc
bool_exact false true e = cc

mutual
  pub order_exact : (a b : Value) → order a b ≡ Equal → a ≡ b
  order_exact (number a) (number b) e = ap number (exact_signed a b e)
  order_exact (truth a) (truth b) e = ap truth (bool_exact a b e)
  order_exact (item t a) (item u b) e = then-equal (order_text t u) (nat_cmp a b) e (λ p q. ap (λ x. item x a) (text_exact t u p) ∙ ap (item u) (exact_unsigned a b q))
  order_exact (node k xs) (node l ys) e = then-equal (order_kind k l) (orders xs ys) e (λ p q. ap (λ x. node x xs) (kind_exact k l p) ∙ ap (node l) (orders_exact xs ys q))
  order_exact (number a) (truth b) e = cc
  order_exact (number a) (item t b) e = cc
  order_exact (number a) (node k ys) e = cc
  order_exact (truth a) (number b) e = cc
  order_exact (truth a) (item t b) e = cc
  order_exact (truth a) (node k ys) e = cc
  order_exact (item t a) (number b) e = cc
  order_exact (item t a) (truth b) e = cc
  order_exact (item t a) (node k ys) e = cc
  order_exact (node k xs) (number b) e = cc
  order_exact (node k xs) (truth b) e = cc
  order_exact (node k xs) (item t b) e = cc

  pub orders_exact : (xs ys : Values) → orders xs ys ≡ Equal → xs ≡ ys
  orders_exact nil nil e = refl
  orders_exact nil (cons y ys) e = cc
  orders_exact (cons x xs) nil e = cc
  orders_exact (cons x xs) (cons y ys) e = then-equal (order x y) (orders xs ys) e (λ p q. ap (λ v. cons v xs) (order_exact x y p) ∙ ap (cons y) (orders_exact xs ys q))

-- ---- turned round

then-reverse : (o p : Ordering) → ordering_reverse (ordering_then o p) ≡ ordering_then (ordering_reverse o) (ordering_reverse p)
then-reverse Less p = refl
then-reverse Equal p = refl
then-reverse Greater p = refl

pub text_total : IsTotalOrder order_text
text_total = lists_total nat_cmp_total

pub texts_total : IsTotalOrder order_texts
texts_total = lists_total text_total

pub ints_total : IsTotalOrder order_ints
ints_total = lists_total int_cmp_total

pub rows_total : IsTotalOrder order_rows
rows_total = lists_total ints_total

-- of two comparisons, one after the other
then-turned : (o p q r : Ordering) → o ≡ ordering_reverse q → p ≡ ordering_reverse r → ordering_then o p ≡ ordering_reverse (ordering_then q r)
then-turned o p q r e f = ap (λ x. ordering_then x p) e ∙ ap (ordering_then (ordering_reverse q)) f ∙ sym (then-reverse q r)

kind-turned : (k l : Kind) → order_kind k l ≡ ordering_reverse (order_kind l k)
kind-turned k l = then-turned _ _ _ _ (nat_cmp_total.antisymm (kind_rank k) (kind_rank l)) (texts_total.antisymm (kind_fields k) (kind_fields l))

mutual
  order-turned : (a b : Value) → order a b ≡ ordering_reverse (order b a)
  order-turned (number a) (number b) = int_cmp_total.antisymm a b
  order-turned (truth a) (truth b) = bool_cmp_total.antisymm a b
  order-turned (item t a) (item u b) = then-turned _ _ _ _ (text_total.antisymm t u) (nat_cmp_total.antisymm a b)
  order-turned (node k xs) (node l ys) = then-turned _ _ _ _ (kind-turned k l) (orders-turned xs ys)
  order-turned _ _ = refl

  orders-turned : (xs ys : Values) → orders xs ys ≡ ordering_reverse (orders ys xs)
  orders-turned nil nil = refl
  orders-turned nil (cons y ys) = refl
  orders-turned (cons x xs) nil = refl
  orders-turned (cons x xs) (cons y ys) = then-turned _ _ _ _ (order-turned x y) (orders-turned xs ys)

-- ---- transitive

then-on : {A B : Type 0} (c : A → A → Ordering) (d : B → B → Ordering) (eq : CmpEqualImpliesEq c) (x y z : A) (u v w : B) →
    (c x y ≡ Less → c y z ≡ Less → c x z ≡ Less) → (d u v ≡ Less → d v w ≡ Less → d u w ≡ Less) →
    ordering_then (c x y) (d u v) ≡ Less → ordering_then (c y z) (d v w) ≡ Less → ordering_then (c x z) (d u w) ≡ Less
then-on c d eq x y z u v w f g e h = go (c x y) (c y z) refl refl e h
  where
    go : (p q : Ordering) → c x y ≡ p → c y z ≡ q → ordering_then p (d u v) ≡ Less → ordering_then q (d v w) ≡ Less → ordering_then (c x z) (d u w) ≡ Less
    go Less Less p q e h = ap (λ o. ordering_then o (d u w)) (f p q)
    go Less Equal p q e h = ap (λ o. ordering_then o (d u w)) (ap (λ s. c x s) (sym (eq y z q)) ∙ p)
    go Equal Less p q e h = ap (λ o. ordering_then o (d u w)) (ap (λ s. c s z) (eq x y p) ∙ q)
    go Equal Equal p q e h = ap (λ o. ordering_then o (d u w)) (ap (λ s. c s z) (eq x y p) ∙ q) ∙ g e h
    go Greater q p r e h = cc
    go Less Greater p q e h = cc
    go Equal Greater p q e h = cc

kind-on : (k l m : Kind) → order_kind k l ≡ Less → order_kind l m ≡ Less → order_kind k m ≡ Less
kind-on k l m p q =
    then-on nat_cmp order_texts exact_unsigned (kind_rank k) (kind_rank l) (kind_rank m) (kind_fields k) (kind_fields l) (kind_fields m)
    (nat_cmp_total.trans (kind_rank k) (kind_rank l) (kind_rank m)) (texts_total.trans (kind_fields k) (kind_fields l) (kind_fields m)) p q

mutual
  order-on : (x y z : Value) → order x y ≡ Less → order y z ≡ Less → order x z ≡ Less
  order-on (number a) (number b) (number c) p q = int_cmp_total.trans a b c p q
  order-on (truth a) (truth b) (truth c) p q = bool_cmp_total.trans a b c p q
  order-on (item t a) (item u b) (item v c) p q = then-on order_text nat_cmp text_exact t u v a b c (text_total.trans t u v) (nat_cmp_total.trans a b c) p q
  order-on (node k xs) (node l ys) (node m zs) p q = then-on order_kind orders kind_exact k l m xs ys zs (kind-on k l m) (orders-on xs ys zs) p q
  order-on (number a) (number b) (truth c) p q = refl
  order-on (number a) (number b) (item ct c) p q = refl
  order-on (number a) (number b) (node ck zs) p q = refl
  order-on (number a) (truth b) (number c) p q = cc
  order-on (number a) (truth b) (truth c) p q = refl
  order-on (number a) (truth b) (item ct c) p q = refl
  order-on (number a) (truth b) (node ck zs) p q = refl
  order-on (number a) (item bt b) (number c) p q = cc
  order-on (number a) (item bt b) (truth c) p q = cc
  order-on (number a) (item bt b) (item ct c) p q = refl
  order-on (number a) (item bt b) (node ck zs) p q = refl
  order-on (number a) (node bk ys) (number c) p q = cc
  order-on (number a) (node bk ys) (truth c) p q = cc
  order-on (number a) (node bk ys) (item ct c) p q = cc
  order-on (number a) (node bk ys) (node ck zs) p q = refl
  order-on (truth a) (number b) z p q = cc
  order-on (truth a) (truth b) (number c) p q = cc
  order-on (truth a) (truth b) (item ct c) p q = refl
  order-on (truth a) (truth b) (node ck zs) p q = refl
  order-on (truth a) (item bt b) (number c) p q = cc
  order-on (truth a) (item bt b) (truth c) p q = cc
  order-on (truth a) (item bt b) (item ct c) p q = refl
  order-on (truth a) (item bt b) (node ck zs) p q = refl
  order-on (truth a) (node bk ys) (number c) p q = cc
  order-on (truth a) (node bk ys) (truth c) p q = cc
  order-on (truth a) (node bk ys) (item ct c) p q = cc
  order-on (truth a) (node bk ys) (node ck zs) p q = refl
  order-on (item at a) (number b) z p q = cc
  order-on (item at a) (truth b) z p q = cc
  order-on (item at a) (item bt b) (number c) p q = cc
  order-on (item at a) (item bt b) (truth c) p q = cc
  order-on (item at a) (item bt b) (node ck zs) p q = refl
  order-on (item at a) (node bk ys) (number c) p q = cc
  order-on (item at a) (node bk ys) (truth c) p q = cc
  order-on (item at a) (node bk ys) (item ct c) p q = cc
  order-on (item at a) (node bk ys) (node ck zs) p q = refl
  order-on (node ak xs) (number b) z p q = cc
  order-on (node ak xs) (truth b) z p q = cc
  order-on (node ak xs) (item bt b) z p q = cc
  order-on (node ak xs) (node bk ys) (number c) p q = cc
  order-on (node ak xs) (node bk ys) (truth c) p q = cc
  order-on (node ak xs) (node bk ys) (item ct c) p q = cc

  orders-on : (xs ys zs : Values) → orders xs ys ≡ Less → orders ys zs ≡ Less → orders xs zs ≡ Less
  orders-on nil nil zs e f = cc
  orders-on nil (cons y ys) nil e f = cc
  orders-on nil (cons y ys) (cons z zs) e f = refl
  orders-on (cons x xs) nil zs e f = cc
  orders-on (cons x xs) (cons y ys) nil e f = cc
  orders-on (cons x xs) (cons y ys) (cons z zs) e f = then-on order orders order_exact x y z xs ys zs (order-on x y z) (orders-on xs ys zs) e f

-- The order of values is total.
pub order_total : IsTotalOrder order
order_total = record {
  antisymm = order-turned;
  trans = order-on;
  congr = λ x y z e. ap (λ v. order v z) (order_exact x y e);
}

pub orders_total : IsTotalOrder orders
orders_total = record {
  antisymm = orders-turned;
  trans = orders-on;
  congr = λ x y z e. ap (λ v. orders v z) (orders_exact x y e);
}

-- ---- tests

pub same-itself : (v : Value) → same v v ≡ true
same-itself v = ap is_eq (tied_itself order_total v)

pub equal-of : (o : Ordering) → is_eq o ≡ true → o ≡ Equal
equal-of Less e = cc
equal-of Equal e = refl
equal-of Greater e = cc

pub same-equal : (a b : Value) → same a b ≡ true → a ≡ b
same-equal a b e = order_exact a b (equal-of (order a b) e)

pub same_int-equal : (a b : ℤ) → same_int a b ≡ true → a ≡ b
same_int-equal a b e = exact_signed a b (equal-of (int_cmp a b) e)

pub same_int-itself : (a : ℤ) → same_int a a ≡ true
same_int-itself a = ap is_eq (tied_itself int_cmp_total a)

pub same_ints-equal : (a b : List ℤ) → same_ints a b ≡ true → a ≡ b
same_ints-equal a b e = ints_exact a b (equal-of (order_ints a b) e)

pub same_ints-itself : (a : List ℤ) → same_ints a a ≡ true
same_ints-itself a = ap is_eq (tied_itself ints_total a)
