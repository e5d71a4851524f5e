-- The types of a member come back from its value with positions.
use Rattle.std.proofs.Common.{◌≡◌, refl, sym, ap, ◌∙◌, ℕ, Bool, true, false, ◌&&◌, List, Option, Some, None, option_map, nat_le, if◌then◌else◌}
use Rattle.std.specs.List.{list_all}
use Rattle.ess_semantics.specs.Lists.{and_then, is_some_and, list_or_none}
use Rattle.ess_semantics.specs.Values.{Text, Kind, a_tuple, a_matrix, a_set, a_mset, a_function, a_relation, a_partition, a_record, Value, number, truth, item, node, Values, nil, cons, to_list, of_list, tuple, pair, matrix, from_of, to_of}
use Rattle.ess_semantics.specs.Order.{order_text, orders, same_text, same_texts}
use Rattle.ess_semantics.specs.Domains.{Span, Domain, Domains, booleans, integers, named, tuples, records, matrices, sets, msets, functions, relations, partitions, no_domains, more_domains, members}
use Rattle.ess_semantics.specs.Membership.{member, member_of_each, tuple_member, nested_matrix, same_list, is_pair, is_part}
use Rattle.ess_semantics.specs.Atoms.{IsAtom, AreAtoms}
use Rattle.ess_semantics.specs.Positions.{with_positions, all_with_positions, each_value, with_parts, each_part, both_parts, with_types, all_with_types, matrix_with_types}
use Rattle.ess_semantics.proofs.Tests.{and-left, and-right}
use Rattle.ess_semantics.proofs.Orders.{to_list-of_list, text_exact, orders_exact, equal-of}
use Rattle.ess_semantics.proofs.MemberLists.{atom-listed}
use Rattle.ess_repr_laws.specs.TypedDomains.{Typed, AllTyped}
use Rattle.ess_repr_laws.proofs.CellsOfOccurrences.{set-member, relation-member}
use Rattle.ess_repr_laws.proofs.CellsOfMatrices.{shape-of}
use Rattle.ess_repr_laws.proofs.Times.{mset-member}
use Rattle.ess_repr_laws.proofs.FunctionPairs.{function-member}
use Rattle.ess_repr_laws.proofs.Parts.{partition-member, part-of}

-- ---- parts

-- Where f puts the types of each value back, it does so for the values of a list.
pub each-back : (f : Value → Option Value) (p : Value → Bool) → ((x : Value) → p x ≡ true → f (with_positions x) ≡ Some x) → (vs : Values) →
    list_all p (to_list vs) ≡ true → each_value f (all_with_positions vs) ≡ Some vs
each-back f p back nil h = refl
each-back f p back (cons v vs) h =
    ap (λ o. and_then o (λ w. option_map (cons w) (each_value f (all_with_positions vs))))
    (back v (and-left (p v) (list_all p (to_list vs)) h))
    ∙ ap (option_map (cons v)) (each-back f p back vs (and-right (p v) (list_all p (to_list vs)) h))

-- The same of a compound value.
node-back : (f : Value → Option Value) (p : Value → Bool) → ((x : Value) → p x ≡ true → f (with_positions x) ≡ Some x) →
    (k : Kind) (xs : List Value) (v : Value) →
    v ≡ node k (of_list xs) → list_all p xs ≡ true → each_part f (with_positions v) ≡ Some v
node-back f p back k xs v e h =
    ap (λ u. each_part f (with_positions u)) e
    ∙ ap (option_map (node k)) (each-back f p back (of_list xs) (ap (list_all p) (to_list-of_list xs) ∙ h)) ∙ ap Some (sym e)

-- The argument and the value of a pair.
pair-back : (f g : Value → Option Value) (p q : Value → Bool) → ((x : Value) → p x ≡ true → f (with_positions x) ≡ Some x) →
    ((x : Value) → q x ≡ true → g (with_positions x) ≡ Some x) →
    (v : Value) → is_pair v && p (from_of v) && q (to_of v) ≡ true → both_parts f g (with_positions v) ≡ Some v
pair-back f g p q fb gb v h = go v h
  where
    go : (v : Value) → is_pair v && p (from_of v) && q (to_of v) ≡ true → both_parts f g (with_positions v) ≡ Some v
    go (pair a b) h =
        ap (λ o. and_then o (λ x. option_map (pair x) (g (with_positions b)))) (fb a (and-left (p a) (q b) h))
        ∙ ap (option_map (pair a)) (gb b (and-right (p a) (q b) h))
    go (number n) h = cc
    go (truth b) h = cc
    go (item t k) h = cc
    go (node a_tuple nil) h = cc
    go (node a_tuple (cons a nil)) h = cc
    go (node a_tuple (cons a (cons b (cons c vs)))) h = cc
    go (node a_matrix vs) h = cc
    go (node a_set vs) h = cc
    go (node a_mset vs) h = cc
    go (node a_function vs) h = cc
    go (node a_relation vs) h = cc
    go (node a_partition vs) h = cc
    go (node (a_record fs) vs) h = cc

-- A part of a partition.
part-back : (f : Value → Option Value) (p : Value → Bool) → ((x : Value) → p x ≡ true → f (with_positions x) ≡ Some x) → (v : Value) →
    is_part p v ≡ true →
    each_part f (with_positions v) ≡ Some v
part-back f p back v h =
    let x = part-of p v h in
    ap (λ u. each_part f (with_positions u)) x.form ∙ ap (option_map (node a_set)) (each-back f p back x.xs x.inside) ∙ ap Some (sym x.form)

-- ---- matrices

-- The indices of a matrix are the members of its index domain.
pub indices-are : (i : Domain) (ix : Values) → is_some_and (members i) (λ vs. same_list vs (to_list ix)) ≡ true →
    members i ≡ Some (to_list ix)
indices-are i ix h = go (members i) refl h
  where
    go : (o : Option (List Value)) → members i ≡ o → is_some_and o (λ vs. same_list vs (to_list ix)) ≡ true → members i ≡ Some (to_list ix)
    go None q h = cc
    go (Some vs) q h =
        let e : of_list vs ≡ of_list (to_list ix) = orders_exact (of_list vs) (of_list (to_list ix))
        (equal-of (orders (of_list vs) (of_list (to_list ix))) h) in
        q ∙ ap Some (sym (to_list-of_list vs) ∙ ap to_list e ∙ to_list-of_list (to_list ix))

-- They are members.
pub indices-inside : (i : Domain) (ix : Values) → IsAtom i → members i ≡ Some (to_list ix) → list_all (member i) (to_list ix) ≡ true
indices-inside i ix a e = let l = atom-listed i a in ap (λ o. list_all (member i) (list_or_none o)) (sym e) ∙ l.members

-- ---- members

-- A truth value or number is its own.
pub boolean-back : (v : Value) → member booleans v ≡ true → with_positions v ≡ v
boolean-back (truth b) h = refl
boolean-back (number n) h = cc
boolean-back (item t k) h = cc
boolean-back (node k vs) h = cc

-- So is a number.
pub integer-back : (ss : List Span) (v : Value) → member (integers ss) v ≡ true → with_positions v ≡ v
integer-back ss (number n) h = refl
integer-back ss (truth b) h = cc
integer-back ss (item t k) h = cc
integer-back ss (node k vs) h = cc

named-back : (t : Text) (n : ℕ) (v : Value) → member (named t n) v ≡ true → with_types (named t n) (with_positions v) ≡ Some v
named-back t n (item u k) h =
    ap (λ b. if b then Some (item t k) else None) (range (same_text t u) (nat_le 1 k) (nat_le k n) h)
    ∙ ap (λ x. Some (item x k))
    (text_exact t u (equal-of (order_text t u) (and-left (same_text t u) (nat_le 1 k) (and-left (same_text t u && nat_le 1 k) (nat_le k n) h))))
  where
    range : (a b c : Bool) → a && b && c ≡ true → b && c ≡ true
    range true b c h = h
    range false b c h = cc
named-back t n (number m) h = cc
named-back t n (truth b) h = cc
named-back t n (node k vs) h = cc

-- The types of an atom's member come back.
pub atom-back : (i : Domain) → IsAtom i → (v : Value) → member i v ≡ true → with_types i (with_positions v) ≡ Some v
atom-back booleans a v h = ap Some (boolean-back v h)
atom-back (integers ss) a v h = ap Some (integer-back ss v h)
atom-back (named t n) a v h = named-back t n v h
atom-back _ a v h = absurd a

matrix-back : (is : Domains) (p : Value → Bool) (f : Value → Option Value) → AreAtoms is →
    ((x : Value) → p x ≡ true → f (with_positions x) ≡ Some x) → (v : Value) → nested_matrix is p v ≡ true →
    matrix_with_types is f (with_positions v) ≡ Some v
matrix-back no_domains p f a back v h = back v h
matrix-back (more_domains i is) p f a back v h =
    let s = shape-of i is p v h in
    let m = indices-are i s.ix s.indices in
    ap (λ u. matrix_with_types (more_domains i is) f (with_positions u)) s.form
    ∙ ap (λ o. and_then o (λ jx. option_map (λ ys. matrix jx ys) (each_value (matrix_with_types is f) (all_with_positions s.xs))))
    (each-back (with_types i) (member i) (atom-back i a.0) s.ix (indices-inside i s.ix a.0 m))
    ∙ ap (option_map (λ ys. matrix s.ix ys))
    (each-back (matrix_with_types is f) (nested_matrix is p) (matrix-back is p f a.1 back) s.xs s.items) ∙ ap Some (sym s.form)

-- ---- tuples and records

-- The types of components come back.
abbrev ComponentsBack : Domains → Type 0
ComponentsBack ds = (vs : Values) → member_of_each ds vs ≡ true → all_with_types ds (all_with_positions vs) ≡ Some vs

tuple-back : (ds : Domains) → ComponentsBack ds → (v : Value) → member (tuples ds) v ≡ true →
    with_parts (all_with_types ds) (with_positions v) ≡ Some v
tuple-back ds back (node a_tuple vs) h = ap (option_map (node a_tuple)) (back vs h)
tuple-back ds back (number n) h = cc
tuple-back ds back (truth b) h = cc
tuple-back ds back (item a k) h = cc
tuple-back ds back (node k vs) h = cc

record-back : (fs : List Text) (ds : Domains) → ComponentsBack ds → (v : Value) → member (records fs ds) v ≡ true →
    with_parts (all_with_types ds) (with_positions v) ≡ Some v
record-back fs ds back (node (a_record gs) vs) h =
    ap (option_map (node (a_record gs))) (back vs (and-right (same_texts fs gs) (member_of_each ds vs) h))
record-back fs ds back (number n) h = cc
record-back fs ds back (truth b) h = cc
record-back fs ds back (item a k) h = cc
record-back fs ds back (node k vs) h = cc

-- A tuple of members is one of components.
pub tuple-components : (ds : Domains) (v : Value) → tuple_member ds v ≡ true →
    (vs : Values) × (v ≡ tuple vs) × (member_of_each ds vs ≡ true)
tuple-components no_domains (tuple nil) h = (nil, refl, refl)
tuple-components no_domains (number n) h = cc
tuple-components no_domains (truth b) h = cc
tuple-components no_domains (item t k) h = cc
tuple-components no_domains (node k vs) h = cc
tuple-components (more_domains d ds) (tuple (cons v vs)) h = (cons v vs, refl, h)
tuple-components (more_domains d ds) (number n) h = cc
tuple-components (more_domains d ds) (truth b) h = cc
tuple-components (more_domains d ds) (item t k) h = cc
tuple-components (more_domains d ds) (node k vs) h = cc

pair-member-back : (ds : Domains) → ComponentsBack ds → (v : Value) → tuple_member ds v ≡ true →
    with_parts (all_with_types ds) (with_positions v) ≡ Some v
pair-member-back ds back v h =
    let x = tuple-components ds v h in
    ap (λ u. with_parts (all_with_types ds) (with_positions u)) x.1 ∙ ap (option_map (node a_tuple)) (back x.0 x.2) ∙ ap Some (sym x.1)

mutual
  -- The types of a member come back.
  pub types-back : (e : Domain) → Typed e → (v : Value) → member e v ≡ true → with_types e (with_positions v) ≡ Some v
  types-back booleans t v h = ap Some (boolean-back v h)
  types-back (integers ss) t v h = ap Some (integer-back ss v h)
  types-back (named a n) t v h = named-back a n v h
  types-back (tuples ds) t v h = tuple-back ds (all-back ds t) v h
  types-back (records fs ds) t v h = record-back fs ds (all-back ds t) v h
  types-back (matrices is d) t v h = matrix-back is (member d) (with_types d) t.0 (types-back d t.1) v h
  types-back (sets ks d) t v h =
      let x = set-member ks d v h in node-back (with_types d) (member d) (types-back d t) a_set x.0 v x.1 x.2.inside
  types-back (msets ks d) t v h =
      let x = mset-member ks d v h in node-back (with_types d) (member d) (types-back d t) a_mset x.0 v x.1 x.2.inside
  types-back (functions ks d c) t v h =
      let x = function-member ks d c v h in
      node-back (both_parts (with_types d) (with_types c)) (λ p. is_pair p && member d (from_of p) && member c (to_of p))
      (pair-back (with_types d) (with_types c) (member d) (member c) (types-back d t.0) (types-back c t.1)) a_function x.0 v x.1 x.2.pairs
  types-back (relations ks ds) t v h =
      let x = relation-member ks ds v h in
      node-back (with_parts (all_with_types ds)) (tuple_member ds)
      (λ y. pair-member-back ds (all-back ds t.1) y) a_relation x.0 v x.1 x.2.inside
  types-back (partitions ks d) t v h =
      let x = partition-member ks d v h in
      node-back (each_part (with_types d)) (is_part (member d))
      (part-back (with_types d) (member d) (types-back d t)) a_partition x.0 v x.1 x.2.parts

  all-back : (ds : Domains) → AllTyped ds → (vs : Values) → member_of_each ds vs ≡ true →
      all_with_types ds (all_with_positions vs) ≡ Some vs
  all-back no_domains t nil h = refl
  all-back no_domains t (cons v vs) h = cc
  all-back (more_domains d ds) t nil h = cc
  all-back (more_domains d ds) t (cons v vs) h =
      ap (λ o. and_then o (λ w. option_map (cons w) (all_with_types ds (all_with_positions vs))))
      (types-back d t.0 v (and-left (member d v) (member_of_each ds vs) h))
      ∙ ap (option_map (cons v)) (all-back ds t.1 vs (and-right (member d v) (member_of_each ds vs) h))
