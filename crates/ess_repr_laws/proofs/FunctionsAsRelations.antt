-- Members of functions as relations of their pairs.
use Rattle.std.proofs.Common.{◌≡◌, refl, sym, ap, ◌∙◌, subst, ℕ, ◌≤◌, Bool, true, false, ◌&&◌, ◌||◌, not, if◌then◌else◌, List, [], ◌∷◌, length, ℤ, Option, Some, None, arith}
use Rattle.std.specs.List.{list_all, list_any}
use Rattle.std.specs.Ordering.{is_lt, ordering_then}
use Rattle.std.specs.declared.cmp.Ordering.TheVariants.{Less}
use Rattle.ess_semantics.specs.declared.words.ReprKind.{ReprKind}
use Rattle.ess_semantics.specs.declared.words.Key.{Key}
use Rattle.ess_semantics.specs.Lists.{and_then, is_some_and, only_of, when, or_else}
use Rattle.ess_semantics.specs.Values.{a_relation, a_function, Value, node, nil, cons, pair, to_list, of_list, items_of, itself, from_of, to_of}
use Rattle.ess_semantics.specs.Order.{order, orders, same, below}
use Rattle.ess_semantics.specs.Collections.{holds, rises, sorted_once, no_twice, has_double_argument, function_of}
use Rattle.ess_semantics.specs.Trees.{Repr, repr, no_reprs, more_reprs}
use Rattle.ess_semantics.specs.Domains.{Attribute, Domain, Domains, sets, relations, functions, no_domains, more_domains, attribute, has, member_list, members}
use Rattle.ess_semantics.specs.Attributes.{size_holds, relation_holds, head_members, relation_attributes_hold, function_holds, function_attributes_hold}
use Rattle.ess_semantics.specs.Membership.{member, tuple_member, is_pair}
use Rattle.ess_semantics.specs.Sizes.{bound, size_attributes, child_relation}
use Rattle.ess_semantics.specs.Cells.{Cells}
use Rattle.ess_semantics.specs.Layers.{only_child}
use Rattle.ess_semantics.specs.FunctionLayers.{function_from}
use Rattle.ess_repr_laws.specs.Finite.{IsFlagged, Enumerated}
use Rattle.ess_repr_laws.specs.Rooms.{FunctionRoom}
use Rattle.ess_semantics.proofs.Tests.{and-left, and-right, and-both, both-ways}
use Rattle.ess_semantics.proofs.Orders.{to_list-of_list}
use Rattle.ess_semantics.proofs.Sorting.{sorted-of, sorted_once-itself, distinct-twice, below-less, all-holds, one-sorted-list}
use Rattle.ess_semantics.proofs.Repeats.{sorted-distinct}
use Rattle.ess_repr_laws.proofs.CanonicalPlaces.{AllOf}
use Rattle.ess_repr_laws.proofs.CellsOfMembers.{HasCells, MembersHaveCells, map-long}
use Rattle.ess_repr_laws.proofs.Rooms.{size-is}
use Rattle.ess_repr_laws.proofs.FunctionPairs.{FunctionMember, function-member, firsts, rises-firsts, each-pair, each-first, pair-of, flag-said, some-list}
use Rattle.ess_repr_laws.proofs.CellsOfConversions.{converted-cells, converted-wide, max-is, min-is, sizes-hold}

-- ---- functions as relations

-- the attributes of a set or relation
abbrev pub keys_of : Domain → List Attribute
keys_of (sets ks d) = ks
keys_of (relations ks ds) = ks
keys_of d = []

abbrev pair_keys : List Attribute → Domain → Bool → List Attribute
pair_keys ks d total =
    if total then size_attributes (Some (bound d)) (attribute Key.MinSize ks) (attribute Key.MaxSize ks)
    else size_attributes (attribute Key.Size ks) (attribute Key.MinSize ks) (if has Key.Size ks then attribute Key.MaxSize ks else or_else (attribute Key.MaxSize ks) (Some (bound d)))

pair-keys : (ks : List Attribute) (d c : Domain) → keys_of (child_relation ks d c) ≡ pair_keys ks d (has Key.Total ks)
pair-keys ks d c = refl

-- A total function has each listed argument.
pub total-said : (ks : List Attribute) (d c : Domain) (ps : List Value) → IsFlagged Key.Total ks → function_attributes_hold ks d c ps ≡ true → list_all (λ x. holds (firsts ps) x) (member_list d) ≡ true
total-said ks d c ps t h =
    some-list (members d) (λ vs. list_all (λ x. holds (firsts ps) x) vs) (flag-said ks (λ k n. size_holds k n (length ps)) (λ k. function_holds k (members d) (members c) ps) Key.Total h t)

-- Pairs whose first parts rise strictly do so themselves.
pub pairs-rise : (ps : List Value) → AllOf ps (λ p. is_pair p ≡ true) → rises from_of ps ≡ true → rises itself ps ≡ true
pairs-rise [] a h = refl
pairs-rise (p ∷ []) a h = refl
pairs-rise (p ∷ q ∷ ps) a h =
    and-both (below p q) (rises itself (q ∷ ps)) (go p q a.0 a.1.0 (below-less (from_of p) (from_of q) (and-left (below (from_of p) (from_of q)) (rises from_of (q ∷ ps)) h)))
    (pairs-rise (q ∷ ps) a.1 (and-right (below (from_of p) (from_of q)) (rises from_of (q ∷ ps)) h))
  where
    go : (p q : Value) → is_pair p ≡ true → is_pair q ≡ true → order (from_of p) (from_of q) ≡ Less → below p q ≡ true
    go p q a b e =
        ap (λ x. below x q) (pair-of p a) ∙ ap (λ y. below (pair (from_of p) (to_of p)) y) (pair-of q b)
        ∙ ap (λ o. is_lt (ordering_then o (orders (cons (to_of p) nil) (cons (to_of q) nil)))) e

once-firsts : (ps : List Value) → no_twice itself (firsts ps) ≡ true → no_twice from_of ps ≡ true
once-firsts [] h = refl
once-firsts (p ∷ ps) h =
    and-both (not (list_any (λ y. same (from_of p) (from_of y)) ps)) (no_twice from_of ps) (ap not (any ps) ∙ and-left (not (list_any (λ y. same (from_of p) y) (firsts ps))) (no_twice itself (firsts ps)) h)
    (once-firsts ps (and-right (not (list_any (λ y. same (from_of p) y) (firsts ps))) (no_twice itself (firsts ps)) h))
  where
    any : (qs : List Value) → list_any (λ y. same (from_of p) (from_of y)) qs ≡ list_any (λ y. same (from_of p) y) (firsts qs)
    any [] = refl
    any (q ∷ qs) = ap (λ b. same (from_of p) (from_of q) || b) (any qs)

module _ (r : Repr) (ks : List Attribute) (d c : Domain) (room : FunctionRoom ks d) (child : MembersHaveCells r (child_relation ks d c)) where
  abbrev relation_of_pairs : Value → Value
  relation_of_pairs v = node a_relation (of_list (items_of v))

  abbrev pairs_asked : Cells → List (List Value) → Bool
  pairs_asked cs vss = is_some_and (and_then (only_of (only_child vss)) function_from) (λ v. function_attributes_hold ks d c (items_of v))

  abbrev both : Domains
  both = more_domains d (more_domains c no_domains)

  pair-tuples : (ps : List Value) → list_all (λ p. is_pair p && member d (from_of p) && member c (to_of p)) ps ≡ true → list_all (tuple_member both) ps ≡ true
  pair-tuples [] h = refl
  pair-tuples (p ∷ ps) h =
      let a = and-left (is_pair p && member d (from_of p) && member c (to_of p)) _ h in
      let b = and-left (is_pair p && member d (from_of p)) (member c (to_of p)) a in
      and-both (tuple_member both p) (list_all (tuple_member both) ps)
      (ap (tuple_member both) (pair-of p (and-left (is_pair p) (member d (from_of p)) b))
      ∙ and-both (member d (from_of p)) (member c (to_of p) && true) (and-right (is_pair p) (member d (from_of p)) b) (and-both (member c (to_of p)) true (and-right (is_pair p && member d (from_of p)) (member c (to_of p)) a) refl))
      (pair-tuples ps (and-right (is_pair p && member d (from_of p) && member c (to_of p)) _ h))

  -- a total function has as many pairs as arguments
  total-many : (ps : List Value) → FunctionMember ks d c ps → IsFlagged Key.Total ks → Enumerated d → length ps ≡ bound d
  total-many ps m t e =
      let l = e.listed in
      let inc = λ (w : Value) (h : holds (firsts ps) w ≡ true). e.complete w (all-holds (member d) (firsts ps) w (each-first d c ps m.pairs) h) in
      let tot = total-said ks d c ps t m.attributes in
      let eq = one-sorted-list (firsts ps) (member_list d) (rises-firsts ps m.rise) l.sorted (λ w. both-ways (holds (firsts ps) w) (holds (member_list d) w) (inc w) (λ h. all-holds (λ x. holds (firsts ps) x) (member_list d) w tot h)) in
      sym (map-long from_of ps) ∙ ap length eq ∙ e.exact

  -- as many pairs as the child allows
  many : (ps : List Value) → FunctionMember ks d c ps → relation_attributes_hold (keys_of (child_relation ks d c)) both ps ≡ true
  many ps m = ap (λ l. relation_attributes_hold l both ps) (pair-keys ks d c) ∙ go (has Key.Total ks) refl
    where
      f : Key → ℤ → Bool
      f k n = size_holds k n (length ps)

      g : Key → Bool
      g k = function_holds k (members d) (members c) ps

      least : (n : ℕ) → attribute Key.MinSize ks ≡ Some n → n ≤ length ps
      least n e = min-is ks f g (length ps) n (λ k z e. e) m.attributes e

      most : (n : ℕ) → attribute Key.MaxSize ks ≡ Some n → length ps ≤ n
      most n e = max-is ks f g (length ps) n (λ k z e. e) m.attributes e

      upper : has Key.Total ks ≡ false → (b : Bool) (o : Option ℕ) → attribute Key.MaxSize ks ≡ o → (n : ℕ) → (if b then o else or_else o (Some (bound d))) ≡ Some n → length ps ≤ n
      upper t true o q n e = most n (q ∙ e)
      upper t false (Some a) q n e = most n (q ∙ e)
      upper t false None q n e =
          let w : bound d ≡ n = cc in
          let x : length (firsts ps) ≤ bound d = room.bounded t (firsts ps) (rises-firsts ps m.rise) (each-first d c ps m.pairs) in
          let y : length (firsts ps) ≡ length ps = map-long from_of ps in omega arith

      go : (b : Bool) → has Key.Total ks ≡ b → relation_attributes_hold (pair_keys ks d b) both ps ≡ true
      go true t =
          let x = room.total t in
          sizes-hold (Some (bound d)) (attribute Key.MinSize ks) (attribute Key.MaxSize ks) (length ps) (λ k. relation_holds k (head_members both) ps)
          (λ n e. let w : bound d ≡ n = cc in total-many ps m x.0 x.1 ∙ w) least most
      go false t =
          sizes-hold (attribute Key.Size ks) (attribute Key.MinSize ks) (if has Key.Size ks then attribute Key.MaxSize ks else or_else (attribute Key.MaxSize ks) (Some (bound d))) (length ps) (λ k. relation_holds k (head_members both) ps)
          (λ n e. size-is ks f g (length ps) n (λ k z e. e) m.attributes e) least (upper t (has Key.Size ks) (attribute Key.MaxSize ks) refl)

  -- Members of functions as relations of pairs.
  pub function-as-relation-members : MembersHaveCells (repr ReprKind.FunctionAsRelation (more_reprs r no_reprs)) (functions ks d c)
  function-as-relation-members = record {
    wide = converted-wide ReprKind.FunctionAsRelation r (functions ks d c) (child_relation ks d c) relation_of_pairs function_from pairs_asked refl refl child;
    of_member = λ v h. let m = function-member ks d c v h in subst (HasCells (repr ReprKind.FunctionAsRelation (more_reprs r no_reprs)) (functions ks d c)) (sym m.1) (go m.0 m.2);
  }
    where
      go : (ps : List Value) → FunctionMember ks d c ps → HasCells (repr ReprKind.FunctionAsRelation (more_reprs r no_reprs)) (functions ks d c) (node a_function (of_list ps))
      go ps m =
          converted-cells ReprKind.FunctionAsRelation r (functions ks d c) (child_relation ks d c) relation_of_pairs function_from pairs_asked refl refl child (node a_function (of_list ps))
          (ap (λ l. member (child_relation ks d c) (node a_relation (of_list l))) items
          ∙ ap (λ l. rises itself l && list_all (tuple_member both) l && relation_attributes_hold (keys_of (child_relation ks d c)) both l) (to_list-of_list ps)
          ∙ and-both (rises itself ps && list_all (tuple_member both) ps) (relation_attributes_hold (keys_of (child_relation ks d c)) both ps)
          (and-both (rises itself ps) (list_all (tuple_member both) ps) rise (pair-tuples ps m.pairs)) (many ps m))
          back
          (ap (λ o. is_some_and o (λ v. function_attributes_hold ks d c (items_of v))) back ∙ ap (function_attributes_hold ks d c) items ∙ m.attributes)
        where
          items : to_list (of_list ps) ≡ ps
          items = to_list-of_list ps

          rise : rises itself ps ≡ true
          rise = pairs-rise ps (each-pair d c ps m.pairs) m.rise

          once : not (has_double_argument ps) ≡ true
          once =
              ap (λ l. not (not (no_twice from_of l))) (sorted_once-itself ps rise)
              ∙ ap (λ b. not (not b)) (once-firsts ps (distinct-twice (firsts ps) (sorted-distinct (firsts ps) (sorted-of (firsts ps) (rises-firsts ps m.rise)))))

          back : function_from (node a_relation (of_list (to_list (of_list ps)))) ≡ Some (node a_function (of_list ps))
          back =
              ap (λ l. function_of (to_list (of_list l))) items ∙ ap function_of items ∙ ap (λ b. when b (node a_function (of_list (sorted_once ps)))) once ∙ ap (λ l. Some (node a_function (of_list l))) (sorted_once-itself ps rise)
