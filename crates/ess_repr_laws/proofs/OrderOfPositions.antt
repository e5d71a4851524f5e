-- Members of domains of one type stand in the order of their values with positions.
use Rattle.std.proofs.Common.{◌≡◌, refl, sym, ap, ◌∙◌, ℕ, Bool, true, ◌&&◌, List, pos, ◌<◌, ◌<ℤ◌, nat_le, arith}
use Rattle.std.specs.List.{list_all}
use Rattle.std.specs.Ordering.{int_cmp, nat_cmp, ordering_then, MatchOrdering}
use Rattle.std.specs.declared.cmp.Ordering.{Ordering}
use Rattle.std.specs.declared.cmp.Ordering.TheVariants.{Less, Equal, Greater}
use Rattle.std.specs.Cmp.{int_cmp_is, ranked}
use Rattle.std.proofs.lemmas.Int.{ints}
use Rattle.std.proofs.lemmas.Cmp.{tied_itself}
use Rattle.ess_semantics.specs.Values.{Text, Kind, a_tuple, a_matrix, a_set, a_mset, a_function, a_relation, a_partition, a_record, Value, number, truth, item, node, Values, nil, cons, to_list, of_list, pair, matrix, from_of, to_of}
use Rattle.ess_semantics.specs.Order.{order, orders, order_kind, order_text, same_text, same_texts}
use Rattle.ess_semantics.specs.Domains.{Domain, Domains, booleans, integers, named, tuples, records, matrices, sets, msets, functions, relations, partitions, no_domains, more_domains}
use Rattle.ess_semantics.specs.Membership.{member, member_of_each, tuple_member, nested_matrix, is_pair, is_part}
use Rattle.ess_semantics.specs.Atoms.{IsAtom, AreAtoms}
use Rattle.ess_semantics.specs.Positions.{with_positions, all_with_positions}
use Rattle.ess_semantics.proofs.Tests.{and-left, and-right}
use Rattle.ess_semantics.proofs.Orders.{to_list-of_list, text_exact, text_total, equal-of}
use Rattle.ess_repr_laws.specs.TypedDomains.{OneType, AllOneType}
use Rattle.ess_repr_laws.proofs.CellsOfOccurrences.{set-member, relation-member}
use Rattle.ess_repr_laws.proofs.CellsOfMatrices.{shape-of}
use Rattle.ess_repr_laws.proofs.Times.{mset-member}
use Rattle.ess_repr_laws.proofs.FunctionPairs.{function-member}
use Rattle.ess_repr_laws.proofs.Parts.{partition-member, part-of}
use Rattle.ess_repr_laws.proofs.TypesBack.{boolean-back, integer-back, indices-are, indices-inside, tuple-components}
use Rattle.ess_repr_laws.proofs.BoundedParts.{tuple-form}

-- Values that pass the tests stand in the order of their values with positions.
abbrev pub Agree : (Value → Bool) → (Value → Bool) → Type 0
Agree p q = (v w : Value) → p v ≡ true → q w ≡ true → order (with_positions v) (with_positions w) ≡ order v w

-- So do lists of them.
pub lists-agree : (p q : Value → Bool) → Agree p q → (vs ws : Values) → list_all p (to_list vs) ≡ true → list_all q (to_list ws) ≡ true →
    orders (all_with_positions vs) (all_with_positions ws) ≡ orders vs ws
lists-agree p q a nil nil h k = refl
lists-agree p q a nil (cons w ws) h k = refl
lists-agree p q a (cons v vs) nil h k = refl
lists-agree p q a (cons v vs) (cons w ws) h k =
    ap (λ o. ordering_then o (orders (all_with_positions vs) (all_with_positions ws)))
    (a v w (and-left (p v) (list_all p (to_list vs)) h) (and-left (q w) (list_all q (to_list ws)) k))
    ∙ ap (ordering_then (order v w))
    (lists-agree p q a vs ws (and-right (p v) (list_all p (to_list vs)) h) (and-right (q w) (list_all q (to_list ws)) k))

-- And compound values of them.
node-agree : (p q : Value → Bool) → Agree p q → (k l : Kind) (xs ys : List Value) (v w : Value) → v ≡ node k (of_list xs) →
    w ≡ node l (of_list ys) → list_all p xs ≡ true → list_all q ys ≡ true →
    order (with_positions v) (with_positions w) ≡ order v w
node-agree p q a k l xs ys v w e f h j =
    ap (λ u. order (with_positions u) (with_positions w)) e
    ∙ ap (λ u. order (node k (all_with_positions (of_list xs))) (with_positions u)) f
    ∙ ap (ordering_then (order_kind k l))
    (lists-agree p q a (of_list xs) (of_list ys) (ap (list_all p) (to_list-of_list xs) ∙ h) (ap (list_all q) (to_list-of_list ys) ∙ j))
    ∙ sym (ap (λ u. order u w) e ∙ ap (order (node k (of_list xs))) f)

-- ---- pairs, parts and matrices

-- A pair of f's and g's has two parts.
pub pair-parts : (f g : Value → Bool) (v : Value) → is_pair v && f (from_of v) && g (to_of v) ≡ true →
    (a : Value) × (b : Value) × (v ≡ pair a b) × (f a ≡ true) × (g b ≡ true)
pair-parts f g (pair a b) h = (a, b, refl, and-left (f a) (g b) h, and-right (f a) (g b) h)
pair-parts f g (number n) h = cc
pair-parts f g (truth b) h = cc
pair-parts f g (item t k) h = cc
pair-parts f g (node k vs) h = cc

-- So do pairs of them.
pub pairs-agree : (f g p q : Value → Bool) → Agree f p → Agree g q →
    Agree (λ v. is_pair v && f (from_of v) && g (to_of v)) (λ v. is_pair v && p (from_of v) && q (to_of v))
pairs-agree f g p q a b v w h k =
    let x = pair-parts f g v h in
    let y = pair-parts p q w k in
    ap (λ u. order (with_positions u) (with_positions w)) x.2
    ∙ ap (λ u. order (pair (with_positions x.0) (with_positions x.1)) (with_positions u)) y.2
    ∙ ap (λ o. ordering_then (order_kind a_tuple a_tuple) (ordering_then o (ordering_then (order (with_positions x.1) (with_positions y.1)) Equal))) (a x.0 y.0 x.3 y.3)
    ∙ ap (λ o. ordering_then (order_kind a_tuple a_tuple) (ordering_then (order x.0 y.0) (ordering_then o Equal))) (b x.1 y.1 x.4 y.4)
    ∙ sym (ap (λ u. order u w) x.2 ∙ ap (order (pair x.0 x.1)) y.2)

-- And parts.
pub parts-agree : (p q : Value → Bool) → Agree p q → Agree (is_part p) (is_part q)
parts-agree p q a v w h k =
    let x = part-of p v h in
    let y = part-of q w k in
    ap (λ u. order (with_positions u) (with_positions w)) x.form
    ∙ ap (λ u. order (node a_set (all_with_positions x.xs)) (with_positions u)) y.form
    ∙ ap (ordering_then (order_kind a_set a_set)) (lists-agree p q a x.xs y.xs x.inside y.inside)
    ∙ sym (ap (λ u. order u w) x.form ∙ ap (order (node a_set x.xs)) y.form)

-- ---- atoms

-- A member of a named type is one of its values.
pub named-item : (t : Text) (n : ℕ) (v : Value) → member (named t n) v ≡ true → (k : ℕ) × (v ≡ item t k)
named-item t n (item u k) h =
    (k, ap (λ x. item x k) (sym (text_exact t u (equal-of (order_text t u) (and-left (same_text t u) (nat_le 1 k) (and-left (same_text t u && nat_le 1 k) (nat_le k n) h))))))
named-item t n (number m) h = cc
named-item t n (truth b) h = cc
named-item t n (node k vs) h = cc

-- Positions stand in the order of the numbers that they are.
position-order : (a b : ℕ) → int_cmp (pos a) (pos b) ≡ nat_cmp a b
position-order a b = sym (int_cmp_is (pos a) (pos b) (nat_cmp a b) (go (nat_cmp a b) (ranked a b (nat_cmp a b) refl)))
  where
    go : (r : Ordering) → MatchOrdering r (a < b) (a ≡ b) (b < a) → MatchOrdering r (pos a <ℤ pos b) (pos a ≡ pos b) (pos b <ℤ pos a)
    go Less h = omega (arith, ints)
    go Equal h = ap pos h
    go Greater h = omega (arith, ints)

-- Values of one named type stand in the order of their positions.
pub named-agree : (t : Text) (n m : ℕ) → Agree (member (named t n)) (member (named t m))
named-agree t n m v w h k =
    let x = named-item t n v h in
    let y = named-item t m w k in
    ap (λ u. order (with_positions u) (with_positions w)) x.1 ∙ ap (λ u. order (number (pos x.0)) (with_positions u)) y.1
    ∙ position-order x.0 y.0 ∙ sym (ap (λ o. ordering_then o (nat_cmp x.0 y.0)) (tied_itself text_total t))
    ∙ sym (ap (λ u. order u w) x.1 ∙ ap (order (item t x.0)) y.1)

atoms-agree : (d e : Domain) → IsAtom d → OneType d e → Agree (member d) (member e)
atoms-agree booleans booleans a t v w h k = ap (λ u. order u (with_positions w)) (boolean-back v h) ∙ ap (order v) (boolean-back w k)
atoms-agree (integers ss) (integers rs) a t v w h k =
    ap (λ u. order u (with_positions w)) (integer-back ss v h) ∙ ap (order v) (integer-back rs w k)
atoms-agree (named x n) (named y m) a t v w h k = named-agree x n m v w h (ap (λ z. member (named z m) w) t ∙ k)
atoms-agree booleans e a t v w h k = absurd t
atoms-agree (integers ss) e a t v w h k = absurd t
atoms-agree (named x n) e a t v w h k = absurd t
atoms-agree _ e a t v w h k = absurd a

matrices-agree : (is js : Domains) → AreAtoms is → AreAtoms js → AllOneType is js → (p q : Value → Bool) → Agree p q →
    Agree (nested_matrix is p) (nested_matrix js q)
matrices-agree no_domains no_domains a b t p q g = g
matrices-agree no_domains (more_domains j js) a b t p q g = absurd t
matrices-agree (more_domains i is) no_domains a b t p q g = absurd t
matrices-agree (more_domains i is) (more_domains j js) a b t p q g = λ v w h k.
    let x = shape-of i is p v h in
    let y = shape-of j js q w k in
    let ix = indices-inside i x.ix a.0 (indices-are i x.ix x.indices) in
    let jx = indices-inside j y.ix b.0 (indices-are j y.ix y.indices) in
    let l = lists-agree (member i) (member j) (atoms-agree i j a.0 t.0) x.ix y.ix ix jx in
    let m = lists-agree (nested_matrix is p) (nested_matrix js q) (matrices-agree is js a.1 b.1 t.1 p q g) x.xs y.xs x.items y.items in
    ap (λ u. order (with_positions u) (with_positions w)) x.form
    ∙ ap (λ u. order (matrix (all_with_positions x.ix) (all_with_positions x.xs)) (with_positions u)) y.form
    ∙ ap (λ o. both o (orders (all_with_positions x.xs) (all_with_positions y.xs))) l ∙ ap (both (orders x.ix y.ix)) m
    ∙ sym (ap (λ u. order u w) x.form ∙ ap (order (matrix x.ix x.xs)) y.form)
  where
    both : Ordering → Ordering → Ordering
    both o u =
        ordering_then (order_kind a_matrix a_matrix)
        (ordering_then (ordering_then (order_kind a_tuple a_tuple) o) (ordering_then (ordering_then (order_kind a_tuple a_tuple) u) Equal))

-- ---- all domains

-- A member of a domain of records is a record of components.
pub record-form : (fs : List Text) (ds : Domains) (v : Value) → member (records fs ds) v ≡ true →
    (gs : List Text) × (vs : Values) × (v ≡ node (a_record gs) vs) × (member_of_each ds vs ≡ true)
record-form fs ds (node (a_record gs) vs) h = (gs, vs, refl, and-right (same_texts fs gs) (member_of_each ds vs) h)
record-form fs ds (number n) h = cc
record-form fs ds (truth b) h = cc
record-form fs ds (item a k) h = cc
record-form fs ds (node k vs) h = cc

-- Components that agree make compound values that agree.
compound-agree : (k l : Kind) (vs ws : Values) (v w : Value) → v ≡ node k vs → w ≡ node l ws →
    orders (all_with_positions vs) (all_with_positions ws) ≡ orders vs ws →
    order (with_positions v) (with_positions w) ≡ order v w
compound-agree k l vs ws v w e f h =
    ap (λ u. order (with_positions u) (with_positions w)) e ∙ ap (λ u. order (node k (all_with_positions vs)) (with_positions u)) f
    ∙ ap (ordering_then (order_kind k l)) h
    ∙ sym (ap (λ u. order u w) e ∙ ap (order (node k vs)) f)

-- The order of components that agree.
abbrev pub ComponentsAgree : Domains → Domains → Type 0
ComponentsAgree ds es =
    (vs ws : Values) → member_of_each ds vs ≡ true → member_of_each es ws ≡ true → orders (all_with_positions vs)
    (all_with_positions ws) ≡ orders vs ws

-- Tuples whose components agree do.
pub tuples-agree : (ds es : Domains) → ComponentsAgree ds es → Agree (tuple_member ds) (tuple_member es)
tuples-agree ds es a v w h k =
    let x = tuple-components ds v h in let y = tuple-components es w k in
    compound-agree a_tuple a_tuple x.0 y.0 v w x.1 y.1 (a x.0 y.0 x.2 y.2)

mutual
  -- Members of domains of one type.
  pub order-agrees : (d e : Domain) → OneType d e → Agree (member d) (member e)
  order-agrees booleans booleans t v w h k = atoms-agree booleans booleans tt t v w h k
  order-agrees (integers ss) (integers rs) t v w h k = atoms-agree (integers ss) (integers rs) tt t v w h k
  order-agrees (named x n) (named y m) t v w h k = atoms-agree (named x n) (named y m) tt t v w h k
  order-agrees (tuples ds) (tuples es) t v w h k =
      let x = tuple-form ds v h in let y = tuple-form es w k in
      compound-agree a_tuple a_tuple x.0 y.0 v w x.1 y.1 (all-agree ds es t x.0 y.0 x.2 y.2)
  order-agrees (records fs ds) (records gs es) t v w h k =
      let x = record-form fs ds v h in let y = record-form gs es w k in
      compound-agree (a_record x.0) (a_record y.0) x.1 y.1 v w x.2 y.2 (all-agree ds es t x.1 y.1 x.3 y.3)
  order-agrees (matrices is d) (matrices js e) t v w h k =
      matrices-agree is js t.0 t.1 t.2 (member d) (member e) (order-agrees d e t.3) v w h k
  order-agrees (sets ks d) (sets ls e) t v w h k =
      let x = set-member ks d v h in let y = set-member ls e w k in
      node-agree (member d) (member e) (order-agrees d e t) a_set a_set x.0 y.0 v w x.1 y.1 x.2.inside y.2.inside
  order-agrees (msets ks d) (msets ls e) t v w h k =
      let x = mset-member ks d v h in let y = mset-member ls e w k in
      node-agree (member d) (member e) (order-agrees d e t) a_mset a_mset x.0 y.0 v w x.1 y.1 x.2.inside y.2.inside
  order-agrees (functions ks d c) (functions ls e f) t v w h k =
      let x = function-member ks d c v h in
      let y = function-member ls e f w k in
      node-agree (λ p. is_pair p && member d (from_of p) && member c (to_of p))
      (λ p. is_pair p && member e (from_of p) && member f (to_of p))
      (pairs-agree (member d) (member c) (member e) (member f) (order-agrees d e t.0) (order-agrees c f t.1)) a_function a_function x.0 y.0 v w x.1 y.1 x.2.pairs y.2.pairs
  order-agrees (relations ks ds) (relations ls es) t v w h k =
      let x = relation-member ks ds v h in
      let y = relation-member ls es w k in
      node-agree (tuple_member ds) (tuple_member es)
      (tuples-agree ds es (λ a b. all-agree ds es t a b)) a_relation a_relation x.0 y.0 v w x.1 y.1 x.2.inside y.2.inside
  order-agrees (partitions ks d) (partitions ls e) t v w h k =
      let x = partition-member ks d v h in
      let y = partition-member ls e w k in
      node-agree (is_part (member d)) (is_part (member e))
      (parts-agree (member d) (member e) (order-agrees d e t)) a_partition a_partition x.0 y.0 v w x.1 y.1 x.2.parts y.2.parts
  order-agrees _ e t v w h k = absurd t

  -- Components of domains of one type.
  pub all-agree : (ds es : Domains) → AllOneType ds es → ComponentsAgree ds es
  all-agree no_domains no_domains t nil nil h k = refl
  all-agree no_domains no_domains t (cons v vs) ws h k = cc
  all-agree no_domains no_domains t nil (cons w ws) h k = cc
  all-agree no_domains (more_domains e es) t vs ws h k = absurd t
  all-agree (more_domains d ds) no_domains t vs ws h k = absurd t
  all-agree (more_domains d ds) (more_domains e es) t nil ws h k = cc
  all-agree (more_domains d ds) (more_domains e es) t (cons v vs) nil h k = cc
  all-agree (more_domains d ds) (more_domains e es) t (cons v vs) (cons w ws) h k =
      ap (λ o. ordering_then o (orders (all_with_positions vs) (all_with_positions ws)))
      (order-agrees d e t.0 v w (and-left (member d v) (member_of_each ds vs) h) (and-left (member e w) (member_of_each es ws) k))
      ∙ ap (ordering_then (order v w))
      (all-agree ds es t.1 vs ws (and-right (member d v) (member_of_each ds vs) h) (and-right (member e w) (member_of_each es ws) k))
