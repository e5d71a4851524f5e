-- Relations as sets and functions as relations are right where the child's representation is.
use Rattle.std.proofs.Common.{◌≡◌, refl, sym, ap, ◌∙◌, Bool, true, false, ◌&&◌, not, List, [], ◌∷◌, take, drop, Option, Some}
use Rattle.std.specs.List.{list_all, list_any}
use Rattle.std.specs.Ordering.{is_eq, is_lt, ordering_then}
use Rattle.std.specs.declared.cmp.Ordering.{Ordering}
use Rattle.std.specs.declared.cmp.Ordering.TheVariants.{Less, Equal, Greater}
use Rattle.ess_semantics.specs.declared.words.ReprKind.{ReprKind}
use Rattle.ess_semantics.specs.Lists.{and_then, when, only_of, is_some_and}
use Rattle.ess_semantics.specs.Values.{a_tuple, a_matrix, a_set, a_mset, a_function, a_relation, a_partition, a_record, Value, number, truth, item, node, Values, nil, cons, to_list, of_list, from_of, to_of, itself, items_of}
use Rattle.ess_semantics.specs.Order.{order, orders, same, below}
use Rattle.ess_semantics.specs.Collections.{sorted_once, rises, no_twice, has_double_argument, function_of}
use Rattle.ess_semantics.specs.Trees.{Repr, repr, no_reprs, more_reprs}
use Rattle.ess_semantics.specs.Domains.{Attribute, Domain, Domains, tuples, sets, functions, relations, no_domains, more_domains}
use Rattle.ess_semantics.specs.Attributes.{relation_attributes_hold, function_attributes_hold}
use Rattle.ess_semantics.specs.Membership.{tuple_member, is_pair, member}
use Rattle.ess_semantics.specs.Sizes.{child_set, child_relation}
use Rattle.ess_semantics.specs.Cells.{Cells, rows}
use Rattle.ess_semantics.specs.Layers.{only_child}
use Rattle.ess_semantics.specs.RelationLayers.{relation_from, relation_as_set_layer}
use Rattle.ess_semantics.specs.FunctionLayers.{function_from, function_as_relation_layer}
use Rattle.ess_semantics.specs.Representations.{value_of_cells}
use Rattle.ess_semantics.specs.Declarations.{axes_of}
use Rattle.ess_semantics.specs.CanonicalTest.{canonical}
use Rattle.ess_semantics.specs.Tidy.{tidy_cells}
use Rattle.ess_repr_laws.specs.CanonicalTables.{Right}
use Rattle.ess_semantics.proofs.Tests.{and-left, and-right, and-both, some-and, or-left-no, not-true}
use Rattle.ess_semantics.proofs.Orders.{of_list-to_list}
use Rattle.ess_semantics.proofs.Sorting.{sorted_once-itself}
use Rattle.ess_repr_laws.proofs.RowsOfCells.{axes-of-layer}
use Rattle.ess_repr_laws.proofs.CanonicalRelations.{tuples-of-members, OneValue, one-value, value-once, value-orderly}

-- the attributes of a set or relation
abbrev pub keys_of : Domain → List Attribute
keys_of (sets ks d) = ks
keys_of (relations ks ds) = ks
keys_of d = []

-- ---- relations as sets

-- A member of a domain of sets is a set.
pub set-member-form : (ks : List Attribute) (d : Domain) (v : Value) → member (sets ks d) v ≡ true →
    (xs : Values) × (v ≡ node a_set xs) × (rises itself (to_list xs) ≡ true) × (list_all (member d) (to_list xs) ≡ true)
set-member-form ks d (node a_set xs) h =
    let a = and-left (rises itself (to_list xs) && list_all (member d) (to_list xs)) _ h in
    (xs, refl, and-left (rises itself (to_list xs)) (list_all (member d) (to_list xs)) a, and-right (rises itself (to_list xs)) (list_all (member d) (to_list xs)) a)
set-member-form ks d (number n) h = cc
set-member-form ks d (truth b) h = cc
set-member-form ks d (item t k) h = cc
set-member-form ks d (node a_tuple xs) h = cc
set-member-form ks d (node a_matrix xs) h = cc
set-member-form ks d (node a_mset xs) h = cc
set-member-form ks d (node a_function xs) h = cc
set-member-form ks d (node a_relation xs) h = cc
set-member-form ks d (node a_partition xs) h = cc
set-member-form ks d (node (a_record fs) xs) h = cc

module _ (r : Repr) (ks : List Attribute) (ds : Domains) (right : Right r (child_set ks ds)) where
  abbrev tuple_set : Value → List (List (Option Value))
  tuple_set v = (Some (node a_set (of_list (items_of v))) ∷ []) ∷ []

  abbrev asked_tuples : Cells → List (List Value) → Bool
  asked_tuples c vss = is_some_and (and_then (only_of (only_child vss)) relation_from) (λ v. relation_attributes_hold ks ds (items_of v))

  abbrev OneSet : Cells → Type 0
  OneSet c = OneValue r (child_set ks ds) right relation_from tuple_set asked_tuples (take 0 c) (drop 0 c)

  record Tuples (c : Cells) : Type 0 where
    one : OneSet c
    xs : Values
    form : one.v ≡ node a_set xs
    sorted : rises itself (to_list xs) ≡ true
    inside : list_all (member (tuples ds)) (to_list xs) ≡ true
    value : value_of_cells (repr ReprKind.RelationAsSet (more_reprs r no_reprs)) (relations ks ds) c ≡ Some (node a_relation xs)

  tuples-of : (c : Cells) → canonical (repr ReprKind.RelationAsSet (more_reprs r no_reprs)) (relations ks ds) c ≡ true → Tuples c
  tuples-of c h =
      let o = one-value r (child_set ks ds) right relation_from tuple_set asked_tuples (take 0 c) (drop 0 c) h in
      let s = set-member-form (keys_of (child_set ks ds)) (tuples ds) o.v o.member_of in
      record { one = o; xs = s.0; form = s.1; sorted = s.2; inside = s.3; value = o.value ∙ ap relation_from s.1 }

  -- Canonical cells of relations as sets.
  pub relation-as-set-right : Right (repr ReprKind.RelationAsSet (more_reprs r no_reprs)) (relations ks ds)
  relation-as-set-right = record { sound = λ c h. let x = tuples-of c h in (node a_relation x.xs, x.value); unique = unique'; tidies = tidies' }
    where
      unique' : (c c' : Cells) → canonical (repr ReprKind.RelationAsSet (more_reprs r no_reprs)) (relations ks ds) c ≡ true → canonical (repr ReprKind.RelationAsSet (more_reprs r no_reprs)) (relations ks ds) c' ≡ true →
          value_of_cells (repr ReprKind.RelationAsSet (more_reprs r no_reprs)) (relations ks ds) c ≡ value_of_cells (repr ReprKind.RelationAsSet (more_reprs r no_reprs)) (relations ks ds) c' →
          rows (axes_of (repr ReprKind.RelationAsSet (more_reprs r no_reprs)) (relations ks ds)) c ≡ rows (axes_of (repr ReprKind.RelationAsSet (more_reprs r no_reprs)) (relations ks ds)) c'
      unique' c c' h h' q =
          let x = tuples-of c h in
          let y = tuples-of c' h' in
          let e : Some (node a_relation x.xs) ≡ Some (node a_relation y.xs) = sym x.value ∙ q ∙ y.value in
          let s : x.xs ≡ y.xs = cc in
          ap (λ a. rows a c) (axes-of-layer (relation_as_set_layer ks ds) (more_reprs r no_reprs))
          ∙ value-once r (child_set ks ds) right relation_from tuple_set asked_tuples (take 0 c) (take 0 c') (drop 0 c) (drop 0 c') x.one y.one (x.form ∙ ap (node a_set) s ∙ sym y.form)
          ∙ sym (ap (λ a. rows a c') (axes-of-layer (relation_as_set_layer ks ds) (more_reprs r no_reprs)))

      tidies' : (c : Cells) → canonical (repr ReprKind.RelationAsSet (more_reprs r no_reprs)) (relations ks ds) c ≡ true → tidy_cells (repr ReprKind.RelationAsSet (more_reprs r no_reprs)) (relations ks ds) c ≡ true
      tidies' c h =
          let x = tuples-of c h in
          let o = x.one in
          and-both (is_some_and (value_of_cells (repr ReprKind.RelationAsSet (more_reprs r no_reprs)) (relations ks ds) c) (member (relations ks ds))) _
          (ap (λ v. is_some_and v (member (relations ks ds))) x.value
          ∙ and-both (rises itself (to_list x.xs) && list_all (tuple_member ds) (to_list x.xs)) (relation_attributes_hold ks ds (to_list x.xs))
          (and-both (rises itself (to_list x.xs)) (list_all (tuple_member ds) (to_list x.xs)) x.sorted (tuples-of-members ds (to_list x.xs) x.inside))
          (sym (ap (λ v. is_some_and (relation_from v) (λ w. relation_attributes_hold ks ds (items_of w))) x.form) ∙ o.attributes))
          (value-orderly r (child_set ks ds) right relation_from tuple_set asked_tuples (take 0 c) (drop 0 c) x.one)

-- ---- functions as relations

-- A member of a domain of relations is a relation of tuples.
pub relation-member-form : (ks : List Attribute) (ds : Domains) (v : Value) → member (relations ks ds) v ≡ true →
    (xs : Values) × (v ≡ node a_relation xs) × (rises itself (to_list xs) ≡ true) × (list_all (tuple_member ds) (to_list xs) ≡ true)
relation-member-form ks ds (node a_relation xs) h =
    let a = and-left (rises itself (to_list xs) && list_all (tuple_member ds) (to_list xs)) _ h in
    (xs, refl, and-left (rises itself (to_list xs)) (list_all (tuple_member ds) (to_list xs)) a, and-right (rises itself (to_list xs)) (list_all (tuple_member ds) (to_list xs)) a)
relation-member-form ks ds (number n) h = cc
relation-member-form ks ds (truth b) h = cc
relation-member-form ks ds (item t k) h = cc
relation-member-form ks ds (node a_tuple xs) h = cc
relation-member-form ks ds (node a_matrix xs) h = cc
relation-member-form ks ds (node a_mset xs) h = cc
relation-member-form ks ds (node a_function xs) h = cc
relation-member-form ks ds (node a_set xs) h = cc
relation-member-form ks ds (node a_partition xs) h = cc
relation-member-form ks ds (node (a_record fs) xs) h = cc

-- Whether a value is a pair of two members.
abbrev pub is_pair_of : Domain → Domain → Value → Bool
is_pair_of d c p = is_pair p && member d (from_of p) && member c (to_of p)

-- a tuple of two members is a pair of them
pair-of-tuple : (d c : Domain) (p : Value) → tuple_member (more_domains d (more_domains c no_domains)) p ≡ true → is_pair_of d c p ≡ true
pair-of-tuple d c (node a_tuple (cons a (cons b nil))) h =
    and-both (member d a) (member c b) (and-left (member d a) (member c b && true) h) (and-left (member c b) true (and-right (member d a) (member c b && true) h))
pair-of-tuple d c (node a_tuple (cons a (cons b (cons e xs)))) h = let z : member c b && false ≡ true = and-right (member d a) (member c b && false) h in absurd (no (member c b) z)
  where
    no : (x : Bool) → x && false ≡ true → ⊥
    no true h = cc
    no false h = cc
pair-of-tuple d c (node a_tuple (cons a nil)) h = let z : false ≡ true = and-right (member d a) false h in cc
pair-of-tuple d c (node a_tuple nil) h = cc
pair-of-tuple d c (number n) h = cc
pair-of-tuple d c (truth b) h = cc
pair-of-tuple d c (item t k) h = cc
pair-of-tuple d c (node a_matrix xs) h = cc
pair-of-tuple d c (node a_set xs) h = cc
pair-of-tuple d c (node a_mset xs) h = cc
pair-of-tuple d c (node a_function xs) h = cc
pair-of-tuple d c (node a_relation xs) h = cc
pair-of-tuple d c (node a_partition xs) h = cc
pair-of-tuple d c (node (a_record fs) xs) h = cc

-- Tuples over two domains are pairs.
pub pairs-of-tuples : (d c : Domain) (ps : List Value) → list_all (tuple_member (more_domains d (more_domains c no_domains))) ps ≡ true → list_all (is_pair_of d c) ps ≡ true
pairs-of-tuples d c [] h = refl
pairs-of-tuples d c (p ∷ ps) h =
    and-both (is_pair_of d c p) (list_all (is_pair_of d c) ps) (pair-of-tuple d c p (and-left _ (list_all (tuple_member (more_domains d (more_domains c no_domains))) ps) h))
    (pairs-of-tuples d c ps (and-right (tuple_member (more_domains d (more_domains c no_domains)) p) _ h))

-- the first parts of rising pairs rise, where no two are equal
first-rise : (p q : Value) → is_pair p ≡ true → is_pair q ≡ true → below p q ≡ true → same (from_of p) (from_of q) ≡ false → below (from_of p) (from_of q) ≡ true
first-rise (node a_tuple (cons a (cons b nil))) (node a_tuple (cons a' (cons b' nil))) i j l n = go (order a a') l n
  where
    go : (o : Ordering) → is_lt (ordering_then o (orders (cons b nil) (cons b' nil))) ≡ true → is_eq o ≡ false → is_lt o ≡ true
    go Less l n = refl
    go Equal l n = cc
    go Greater l n = cc
first-rise (number n) q i j l m = cc
first-rise (truth n) q i j l m = cc
first-rise (item t n) q i j l m = cc
first-rise (node a_matrix xs) q i j l m = cc
first-rise (node a_set xs) q i j l m = cc
first-rise (node a_mset xs) q i j l m = cc
first-rise (node a_function xs) q i j l m = cc
first-rise (node a_relation xs) q i j l m = cc
first-rise (node a_partition xs) q i j l m = cc
first-rise (node (a_record fs) xs) q i j l m = cc
first-rise (node a_tuple nil) q i j l m = cc
first-rise (node a_tuple (cons a nil)) q i j l m = cc
first-rise (node a_tuple (cons a (cons b (cons e xs)))) q i j l m = cc
first-rise (node a_tuple (cons a (cons b nil))) (number n) i j l m = cc
first-rise (node a_tuple (cons a (cons b nil))) (truth n) i j l m = cc
first-rise (node a_tuple (cons a (cons b nil))) (item t n) i j l m = cc
first-rise (node a_tuple (cons a (cons b nil))) (node a_matrix xs) i j l m = cc
first-rise (node a_tuple (cons a (cons b nil))) (node a_set xs) i j l m = cc
first-rise (node a_tuple (cons a (cons b nil))) (node a_mset xs) i j l m = cc
first-rise (node a_tuple (cons a (cons b nil))) (node a_function xs) i j l m = cc
first-rise (node a_tuple (cons a (cons b nil))) (node a_relation xs) i j l m = cc
first-rise (node a_tuple (cons a (cons b nil))) (node a_partition xs) i j l m = cc
first-rise (node a_tuple (cons a (cons b nil))) (node (a_record fs) xs) i j l m = cc
first-rise (node a_tuple (cons a (cons b nil))) (node a_tuple nil) i j l m = cc
first-rise (node a_tuple (cons a (cons b nil))) (node a_tuple (cons x nil)) i j l m = cc
first-rise (node a_tuple (cons a (cons b nil))) (node a_tuple (cons x (cons y (cons z xs)))) i j l m = cc

firsts-rise : (d c : Domain) (ps : List Value) → list_all (is_pair_of d c) ps ≡ true → rises itself ps ≡ true → no_twice from_of ps ≡ true → rises from_of ps ≡ true
firsts-rise d c [] h r n = refl
firsts-rise d c (p ∷ []) h r n = refl
firsts-rise d c (p ∷ q ∷ ps) h r n =
    let hq = and-right (is_pair_of d c p) (list_all (is_pair_of d c) (q ∷ ps)) h in
    and-both (below (from_of p) (from_of q)) (rises from_of (q ∷ ps))
    (first-rise p q (and-left (is_pair p) _ (and-left (is_pair p && member d (from_of p)) _ (and-left (is_pair_of d c p) _ h))) (and-left (is_pair q) _ (and-left (is_pair q && member d (from_of q)) _ (and-left (is_pair_of d c q) _ hq)))
    (and-left (below p q) (rises itself (q ∷ ps)) r)
    (or-left-no (same (from_of p) (from_of q)) _ (not-true _ (and-left (not (list_any (λ y. same (from_of p) (from_of y)) (q ∷ ps))) (no_twice from_of (q ∷ ps)) n))))
    (firsts-rise d c (q ∷ ps) hq (and-right (below p q) (rises itself (q ∷ ps)) r) (and-right (not (list_any (λ y. same (from_of p) (from_of y)) (q ∷ ps))) (no_twice from_of (q ∷ ps)) n))

-- what `when` says
pub when-some : {A : Type 0} (b : Bool) (x y : A) → when b x ≡ Some y → (b ≡ true) × (x ≡ y)
when-some true x y e = (refl, cc)
when-some false x y e = cc

-- A test that doesn't fail holds.
pub not-not : (b : Bool) → not (not b) ≡ true → b ≡ true
not-not true e = refl
not-not false e = cc

module _ (r : Repr) (ks : List Attribute) (d c : Domain) (right : Right r (child_relation ks d c)) where
  abbrev as_relation : Repr
  as_relation = repr ReprKind.FunctionAsRelation (more_reprs r no_reprs)

  abbrev pair_relation : Value → List (List (Option Value))
  pair_relation v = (Some (node a_relation (of_list (items_of v))) ∷ []) ∷ []

  abbrev asked_pairs : Cells → List (List Value) → Bool
  asked_pairs x vss = is_some_and (and_then (only_of (only_child vss)) function_from) (λ v. function_attributes_hold ks d c (items_of v))

  record Pairs (x : Cells) : Type 0 where
    one : OneValue r (child_relation ks d c) right function_from pair_relation asked_pairs (take 0 x) (drop 0 x)
    ps : Values
    form : one.v ≡ node a_relation ps
    sorted : rises itself (to_list ps) ≡ true
    pairs : list_all (is_pair_of d c) (to_list ps) ≡ true
    firsts : rises from_of (to_list ps) ≡ true
    value : value_of_cells as_relation (functions ks d c) x ≡ Some (node a_function ps)
    attributes : function_attributes_hold ks d c (to_list ps) ≡ true

  pairs-of : (x : Cells) → canonical as_relation (functions ks d c) x ≡ true → Pairs x
  pairs-of x h =
      let o = one-value r (child_relation ks d c) right function_from pair_relation asked_pairs (take 0 x) (drop 0 x) h in
      let s = relation-member-form (keys_of (child_relation ks d c)) (more_domains d (more_domains c no_domains)) o.v o.member_of in
      let a = some-and (function_of (to_list s.0)) (λ v. function_attributes_hold ks d c (items_of v)) (ap (λ v. is_some_and (function_from v) (λ w. function_attributes_hold ks d c (items_of w))) (sym s.1) ∙ o.attributes) in
      let w = when-some (not (has_double_argument (to_list s.0))) (node a_function (of_list (sorted_once (to_list s.0)))) a.0 a.1 in
      let own : sorted_once (to_list s.0) ≡ to_list s.0 = sorted_once-itself (to_list s.0) s.2 in
      let f : a.0 ≡ node a_function s.0 = sym w.1 ∙ ap (λ l. node a_function (of_list l)) own ∙ ap (node a_function) (of_list-to_list s.0) in
      let ps = pairs-of-tuples d c (to_list s.0) s.3 in
      record {
        one = o;
        ps = s.0;
        form = s.1;
        sorted = s.2;
        pairs = ps;
        firsts = firsts-rise d c (to_list s.0) ps s.2 (ap (no_twice from_of) (sym own) ∙ not-not (no_twice from_of (sorted_once (to_list s.0))) w.0);
        value = o.value ∙ ap function_from s.1 ∙ a.1 ∙ ap Some f;
        attributes = ap (λ v. function_attributes_hold ks d c (items_of v)) (sym f) ∙ a.2;
      }

  -- Canonical cells of functions as relations.
  pub function-as-relation-right : Right as_relation (functions ks d c)
  function-as-relation-right = record { sound = λ x h. let y = pairs-of x h in (node a_function y.ps, y.value); unique = unique'; tidies = tidies' }
    where
      unique' : (x x' : Cells) → canonical as_relation (functions ks d c) x ≡ true → canonical as_relation (functions ks d c) x' ≡ true →
          value_of_cells as_relation (functions ks d c) x ≡ value_of_cells as_relation (functions ks d c) x' → rows (axes_of as_relation (functions ks d c)) x ≡ rows (axes_of as_relation (functions ks d c)) x'
      unique' x x' h h' q =
          let y = pairs-of x h in
          let y' = pairs-of x' h' in
          let e : Some (node a_function y.ps) ≡ Some (node a_function y'.ps) = sym y.value ∙ q ∙ y'.value in
          let s : y.ps ≡ y'.ps = cc in
          ap (λ a. rows a x) (axes-of-layer (function_as_relation_layer ks d c) (more_reprs r no_reprs))
          ∙ value-once r (child_relation ks d c) right function_from pair_relation asked_pairs (take 0 x) (take 0 x') (drop 0 x) (drop 0 x') y.one y'.one (y.form ∙ ap (node a_relation) s ∙ sym y'.form)
          ∙ sym (ap (λ a. rows a x') (axes-of-layer (function_as_relation_layer ks d c) (more_reprs r no_reprs)))

      tidies' : (x : Cells) → canonical as_relation (functions ks d c) x ≡ true → tidy_cells as_relation (functions ks d c) x ≡ true
      tidies' x h =
          let y = pairs-of x h in
          and-both (is_some_and (value_of_cells as_relation (functions ks d c) x) (member (functions ks d c))) _
          (ap (λ v. is_some_and v (member (functions ks d c))) y.value
          ∙ and-both (rises from_of (to_list y.ps) && list_all (is_pair_of d c) (to_list y.ps)) (function_attributes_hold ks d c (to_list y.ps))
          (and-both (rises from_of (to_list y.ps)) (list_all (is_pair_of d c) (to_list y.ps)) y.firsts y.pairs) y.attributes)
          (value-orderly r (child_relation ks d c) right function_from pair_relation asked_pairs (take 0 x) (drop 0 x) y.one)
