-- Values of one type stand in the order of their values with positions.
use Rattle.std.proofs.Common.{◌≡◌, refl, sym, ap, ◌∙◌, Bool, true, false, ◌&&◌, not, List, Option, Some, None, nat_eq, length}
use Rattle.std.specs.List.{list_all}
use Rattle.std.specs.Ordering.{ordering_then}
use Rattle.std.specs.declared.cmp.Ordering.TheVariants.{Equal}
use Rattle.ess_semantics.specs.Values.{Text, Kind, a_tuple, a_matrix, a_set, a_mset, a_function, a_relation, a_partition, a_record, Value, number, truth, item, node, Values, nil, cons, to_list, tuple, matrix, from_of, to_of, itself}
use Rattle.ess_semantics.specs.Order.{order, orders, order_kind, same_texts}
use Rattle.ess_semantics.specs.Collections.{rises, rises_weakly, has_overlap}
use Rattle.ess_semantics.specs.Types.{Ty, Tys, any_ty, bool_ty, int_ty, named_ty, compound, no_tys, more_tys}
use Rattle.ess_semantics.specs.Domains.{named}
use Rattle.ess_semantics.specs.Membership.{member, is_pair, is_part}
use Rattle.ess_semantics.specs.Meaning.{TypeEntry, type_entry}
use Rattle.ess_semantics.specs.Positions.{with_positions, all_with_positions}
use Rattle.ess_semantics.specs.TypeMembers.{is_of_named, is_of, is_tuple_of, are_of}
use Rattle.ess_semantics.proofs.Tests.{and-left, and-right}
use Rattle.ess_repr_laws.proofs.OrderOfPositions.{Agree, lists-agree, pairs-agree, parts-agree, named-agree}

-- Compound values, where their parts stand so.
nodes : (k l : Kind) (vs ws : Values) → orders (all_with_positions vs) (all_with_positions ws) ≡ orders vs ws →
    order (with_positions (node k vs)) (with_positions (node l ws)) ≡ order (node k vs) (node l ws)
nodes k l vs ws e = ap (ordering_then (order_kind k l)) e

-- Matrices, where their indices and their items stand so.
matrices : (is js xs ys : Values) → orders (all_with_positions is) (all_with_positions js) ≡ orders is js →
    orders (all_with_positions xs) (all_with_positions ys) ≡ orders xs ys →
    order (with_positions (matrix is xs)) (with_positions (matrix js ys)) ≡ order (matrix is xs) (matrix js ys)
matrices is js xs ys e f =
    ap (λ o. ordering_then (order_kind a_matrix a_matrix)
    (ordering_then o (ordering_then (order (tuple (all_with_positions xs)) (tuple (all_with_positions ys))) Equal)))
    (nodes a_tuple a_tuple is js e)
    ∙ ap (λ o. ordering_then (order_kind a_matrix a_matrix) (ordering_then (order (tuple is) (tuple js)) (ordering_then o Equal)))
    (nodes a_tuple a_tuple xs ys f)

-- Values of one named type.
named-member : (a : Text) (e : TypeEntry) (v : Value) → is_of_named false a (Some e) v ≡ true → member (named a e.count) v ≡ true
named-member a e (item u k) h = h
named-member a e (number n) h = cc
named-member a e (truth b) h = cc
named-member a e (node k vs) h = cc

named-order : (a : Text) (o : Option TypeEntry) → Agree (is_of_named false a o) (is_of_named false a o)
named-order a None v w h k = cc
named-order a (Some e) v w h k = named-agree a e.count e.count v w (named-member a e v h) (named-member a e w k)

bool-order : (v w : Value) → (b : Bool) × (v ≡ truth b) → (b : Bool) × (w ≡ truth b) →
    order (with_positions v) (with_positions w) ≡ order v w
bool-order v w x y =
    ap (λ u. order (with_positions u) (with_positions w)) x.1 ∙ ap (λ u. order (truth x.0) (with_positions u)) y.1
    ∙ sym (ap (λ u. order u w) x.1 ∙ ap (order (truth x.0)) y.1)

module _ (es : List TypeEntry) where
  abbrev Of : Ty → Value → Bool
  Of t v = is_of false es t v

  is-truth : (v : Value) → Of bool_ty v ≡ true → (b : Bool) × (v ≡ truth b)
  is-truth (truth b) h = (b, refl)
  is-truth (number n) h = cc
  is-truth (item t k) h = cc
  is-truth (node k vs) h = cc

  int-order : Agree (Of int_ty) (Of int_ty)
  int-order (number a) (number b) h k = refl
  int-order (number a) (truth b) h k = cc
  int-order (number a) (item t b) h k = cc
  int-order (number a) (node l ws) h k = cc
  int-order (truth b) w h k = cc
  int-order (item t b) w h k = cc
  int-order (node l ws) w h k = cc

  -- The order of components of these types.
  abbrev ComponentsAgree : Tys → Type 0
  ComponentsAgree ts = (vs ws : Values) → are_of false es ts (to_list vs) ≡ true → are_of false es ts (to_list ws) ≡ true →
      orders (all_with_positions vs) (all_with_positions ws) ≡ orders vs ws

  -- A component more.
  more-agree : (t : Ty) (ts : Tys) → Agree (Of t) (Of t) → ComponentsAgree ts → ComponentsAgree (more_tys t ts)
  more-agree t ts f g (cons v vs) (cons w ws) h k =
      ap (λ o. ordering_then o (orders (all_with_positions vs) (all_with_positions ws)))
      (f v w (and-left (Of t v) (are_of false es ts (to_list vs)) h) (and-left (Of t w) (are_of false es ts (to_list ws)) k))
      ∙ ap (ordering_then (order v w))
      (g vs ws (and-right (Of t v) (are_of false es ts (to_list vs)) h) (and-right (Of t w) (are_of false es ts (to_list ws)) k))
  more-agree t ts f g nil ws h k = cc
  more-agree t ts f g (cons v vs) nil h k = cc

  none-agree : ComponentsAgree no_tys
  none-agree nil nil h k = refl
  none-agree nil (cons w ws) h k = cc
  none-agree (cons v vs) ws h k = cc

  -- Tuples of these types.
  tuple-form : (ts : Tys) (v : Value) → is_tuple_of false es ts v ≡ true →
      (vs : Values) × (v ≡ tuple vs) × (are_of false es ts (to_list vs) ≡ true)
  tuple-form (more_tys t ts) (tuple (cons v vs)) h = (cons v vs, refl, h)
  tuple-form _ v h = cc

  tuples-agree : (ts : Tys) → ComponentsAgree ts → Agree (is_tuple_of false es ts) (is_tuple_of false es ts)
  tuples-agree ts f v w h k =
      let x = tuple-form ts v h in
      let y = tuple-form ts w k in
      ap (λ u. order (with_positions u) (with_positions w)) x.1 ∙ ap (λ u. order (with_positions (tuple x.0)) (with_positions u)) y.1
      ∙ nodes a_tuple a_tuple x.0 y.0 (f x.0 y.0 x.2 y.2) ∙ sym (ap (λ u. order u w) x.1 ∙ ap (order (tuple x.0)) y.1)

  -- Values of each of these types.
  abbrev EachAgree : Tys → Type 0
  EachAgree no_tys = Unit {0}
  EachAgree (more_tys t ts) = Agree (is_of false es t) (is_of false es t) × EachAgree ts

  components-agree : (ts : Tys) → EachAgree ts → ComponentsAgree ts
  components-agree no_tys e = none-agree
  components-agree (more_tys t ts) e = more-agree t ts e.0 (components-agree ts e.1)

  -- Compound values of one type, where their parts stand so.
  order-of-kind : (k : Kind) (ts : Tys) → EachAgree ts → Agree (is_of false es (compound k ts)) (is_of false es (compound k ts))
  order-of-kind a_tuple ts e (tuple vs) (tuple ws) h k = nodes a_tuple a_tuple vs ws (components-agree ts e vs ws h k)
  order-of-kind (a_record fs) ts e (node (a_record gs) vs) (node (a_record hs) ws) h k =
      nodes (a_record gs) (a_record hs) vs ws (components-agree ts e vs ws
      (and-right (same_texts fs gs) (are_of false es ts (to_list vs)) h) (and-right (same_texts fs hs) (are_of false es ts (to_list ws)) k))
  order-of-kind a_set (more_tys t no_tys) e (node a_set vs) (node a_set ws) h k =
      nodes a_set a_set vs ws (lists-agree (Of t) (Of t) e.0 vs ws
      (and-right (rises itself (to_list vs)) (list_all (Of t) (to_list vs)) h)
      (and-right (rises itself (to_list ws)) (list_all (Of t) (to_list ws)) k))
  order-of-kind a_mset (more_tys t no_tys) e (node a_mset vs) (node a_mset ws) h k =
      nodes a_mset a_mset vs ws (lists-agree (Of t) (Of t) e.0 vs ws
      (and-right (rises_weakly (to_list vs)) (list_all (Of t) (to_list vs)) h)
      (and-right (rises_weakly (to_list ws)) (list_all (Of t) (to_list ws)) k))
  order-of-kind a_matrix (more_tys t (more_tys u no_tys)) e (matrix is xs) (matrix js ys) h k =
      matrices is js xs ys
      (lists-agree (Of t) (Of t) e.0 is js
      (and-right (rises itself (to_list is) && nat_eq (length (to_list is)) (length (to_list xs))) (list_all (Of t) (to_list is))
      (and-left _ (list_all (Of u) (to_list xs)) h))
      (and-right (rises itself (to_list js) && nat_eq (length (to_list js)) (length (to_list ys))) (list_all (Of t) (to_list js))
      (and-left _ (list_all (Of u) (to_list ys)) k)))
      (lists-agree (Of u) (Of u) e.1.0 xs ys (and-right _ (list_all (Of u) (to_list xs)) h) (and-right _ (list_all (Of u) (to_list ys)) k))
  order-of-kind a_function (more_tys t (more_tys u no_tys)) e (node a_function vs) (node a_function ws) h k =
      nodes a_function a_function vs ws
      (lists-agree (λ x. is_pair x && Of t (from_of x) && Of u (to_of x)) (λ x. is_pair x && Of t (from_of x) && Of u (to_of x))
      (pairs-agree (Of t) (Of u) (Of t) (Of u) e.0 e.1.0) vs ws
      (and-right (rises from_of (to_list vs)) _ h) (and-right (rises from_of (to_list ws)) _ k))
  order-of-kind a_relation ts e (node a_relation vs) (node a_relation ws) h k =
      nodes a_relation a_relation vs ws
      (lists-agree (is_tuple_of false es ts) (is_tuple_of false es ts) (tuples-agree ts (components-agree ts e)) vs ws
      (and-right (rises itself (to_list vs)) _ h) (and-right (rises itself (to_list ws)) _ k))
  order-of-kind a_partition (more_tys t no_tys) e (node a_partition vs) (node a_partition ws) h k =
      nodes a_partition a_partition vs ws
      (lists-agree (is_part (Of t)) (is_part (Of t)) (parts-agree (Of t) (Of t) e.0) vs ws
      (and-right (rises itself (to_list vs)) _ (and-left _ (not (has_overlap (to_list vs))) h))
      (and-right (rises itself (to_list ws)) _ (and-left _ (not (has_overlap (to_list ws))) k)))
  order-of-kind _ ts e v w h k = cc

  mutual
    -- Values of one type.
    pub order-of-type : (t : Ty) → Agree (is_of false es t) (is_of false es t)
    order-of-type any_ty v w h k = cc
    order-of-type bool_ty v w h k = bool-order v w (is-truth v h) (is-truth w k)
    order-of-type int_ty v w h k = int-order v w h k
    order-of-type (named_ty a) v w h k = named-order a (type_entry es a) v w h k
    order-of-type (compound k ts) v w h l = order-of-kind k ts (each-order ts) v w h l

    each-order : (ts : Tys) → EachAgree ts
    each-order no_tys = tt
    each-order (more_tys t ts) = (order-of-type t, each-order ts)
