-- What a generator takes from a value of a type has the type of what it takes.
use Rattle.std.proofs.Common.{◌≡◌, refl, sym, subst, Bool, true, ◌&&◌, not, List, length, nat_eq, Some}
use Rattle.std.specs.List.{list_all}
use Rattle.ess_semantics.specs.Lists.{is_empty}
use Rattle.ess_semantics.specs.Values.{a_tuple, a_matrix, a_set, a_mset, a_function, a_relation, a_partition, Value, node, cons, to_list, of_list, tuple, pair, matrix, from_of, to_of, items_of, itself}
use Rattle.ess_semantics.specs.Collections.{rises, rises_weakly, has_overlap}
use Rattle.ess_semantics.specs.Types.{Ty, Tys, any_ty, compound, no_tys, more_tys, compound1, compound2}
use Rattle.ess_semantics.specs.OperatorTypes.{member_ty}
use Rattle.ess_semantics.specs.Membership.{is_pair, is_part}
use Rattle.ess_semantics.specs.Meaning.{TypeEntry}
use Rattle.ess_semantics.specs.TypeMembers.{is_of, is_tuple_of}
use Rattle.ess_semantics.proofs.Tests.{and-left, and-right, and-both}
use Rattle.ess_semantics.proofs.Orders.{to_list-of_list}
use Rattle.ess_types_laws.proofs.Joins.{Of, all-map}

module _ (p : Bool) (es : List TypeEntry) where
  -- A pair of a function is a tuple of its types.
  abbrev pub is_pair_of : Ty → Ty → Value → Bool
  is_pair_of a b x = is_pair x && is_of p es a (from_of x) && is_of p es b (to_of x)

  pub pair-fits : (a b : Ty) (x : Value) → is_pair_of a b x ≡ true → Of p es (compound2 a_tuple a b) x
  pair-fits a b (pair u w) h =
      and-both (is_of p es a u) (is_of p es b w && true) (and-left (is_of p es a u) (is_of p es b w) h)
      (and-both (is_of p es b w) true (and-right (is_of p es a u) (is_of p es b w) h) refl)
  pair-fits a b _ h = cc

  pub row-fits : (ts : Tys) (x : Value) → is_tuple_of p es ts x ≡ true → Of p es (compound a_tuple ts) x
  row-fits (more_tys t ts) (tuple (cons v vs)) h = h
  row-fits _ x h = cc

  pub part-fits : (a : Ty) (x : Value) → is_part (is_of p es a) x ≡ true → Of p es (compound1 a_set a) x
  part-fits a (node a_set xs) h =
      and-both (rises itself (to_list xs)) (list_all (is_of p es a) (to_list xs))
      (and-left (rises itself (to_list xs)) (not (is_empty (to_list xs)))
      (and-left (rises itself (to_list xs) && not (is_empty (to_list xs))) (list_all (is_of p es a) (to_list xs)) h))
      (and-right (rises itself (to_list xs) && not (is_empty (to_list xs))) (list_all (is_of p es a) (to_list xs)) h)
  part-fits a _ h = cc

  -- ---- what is in a container of a type

  pub set-items : (a : Ty) (v : Value) → Of p es (compound1 a_set a) v →
      (rises itself (items_of v) ≡ true) × (list_all (is_of p es a) (items_of v) ≡ true)
  set-items a (node a_set xs) o = (
    and-left (rises itself (to_list xs)) (list_all (is_of p es a) (to_list xs)) o,
    and-right (rises itself (to_list xs))
        (list_all (is_of p es a) (to_list xs)) o,
  )
  set-items a _ o = cc

  pub mset-items : (a : Ty) (v : Value) → Of p es (compound1 a_mset a) v → list_all (is_of p es a) (items_of v) ≡ true
  mset-items a (node a_mset xs) o = and-right (rises_weakly (to_list xs)) (list_all (is_of p es a) (to_list xs)) o
  mset-items a _ o = cc

  pub function-items : (a b : Ty) (v : Value) → Of p es (compound2 a_function a b) v → list_all (is_pair_of a b) (items_of v) ≡ true
  function-items a b (node a_function xs) o = and-right (rises from_of (to_list xs)) (list_all (is_pair_of a b) (to_list xs)) o
  function-items a b _ o = cc

  pub relation-items : (ts : Tys) (v : Value) → Of p es (compound a_relation ts) v →
      (rises itself (items_of v) ≡ true) × (list_all (is_tuple_of p es ts) (items_of v) ≡ true)
  relation-items ts (node a_relation xs) o = (
    and-left (rises itself (to_list xs)) (list_all (is_tuple_of p es ts) (to_list xs)) o,
    and-right (rises itself (to_list xs))
        (list_all (is_tuple_of p es ts) (to_list xs)) o,
  )
  relation-items ts _ o = cc

  pub partition-items : (a : Ty) (v : Value) → Of p es (compound1 a_partition a) v → list_all (is_part (is_of p es a)) (items_of v) ≡ true
  partition-items a (node a_partition xs) o =
      and-right (rises itself (to_list xs)) (list_all (is_part (is_of p es a)) (to_list xs))
      (and-left (rises itself (to_list xs) && list_all (is_part (is_of p es a)) (to_list xs)) (not (has_overlap (to_list xs))) o)
  partition-items a _ o = cc

  pub matrix-items : (i a : Ty) (v : Value) → Of p es (compound2 a_matrix i a) v → list_all (is_of p es a) (items_of v) ≡ true
  matrix-items i a (matrix is xs) o =
      and-right (rises itself (to_list is) && nat_eq (length (to_list is)) (length (to_list xs)) && list_all (is_of p es i) (to_list is))
      (list_all (is_of p es a) (to_list xs)) o
  matrix-items i a _ o = cc

  -- What a generator takes has the type of what is taken.
  pub items-fit : (t m : Ty) (v : Value) → member_ty t ≡ Some m → Of p es t v → list_all (is_of p es m) (items_of v) ≡ true
  items-fit (compound a_set (more_tys a no_tys)) m v e o = let q : a ≡ m = cc in
      subst (λ x. list_all (is_of p es x) (items_of v) ≡ true) q (set-items a v o).1
  items-fit (compound a_mset (more_tys a no_tys)) m v e o = let q : a ≡ m = cc in
      subst (λ x. list_all (is_of p es x) (items_of v) ≡ true) q (mset-items a v o)
  items-fit (compound a_function (more_tys a (more_tys b no_tys))) m v e o =
      let q : compound2 a_tuple a b ≡ m = cc in
      subst (λ x. list_all (is_of p es x) (items_of v) ≡ true) q
      (all-map (is_pair_of a b) (is_of p es (compound2 a_tuple a b)) (items_of v) (pair-fits a b) (function-items a b v o))
  items-fit (compound a_relation no_tys) m v e o =
      all-map (is_tuple_of p es no_tys) (is_of p es m) (items_of v) (λ x h. absurd (no-tuple x h)) (relation-items no_tys v o).1
    where
      no-tuple : (x : Value) → is_tuple_of p es no_tys x ≡ true → ⊥
      no-tuple x h = cc
  items-fit (compound a_relation (more_tys t ts)) m v e o =
      let q : compound a_tuple (more_tys t ts) ≡ m = cc in
      subst (λ x. list_all (is_of p es x) (items_of v) ≡ true) q
      (all-map (is_tuple_of p es (more_tys t ts)) (is_of p es (compound a_tuple (more_tys t ts))) (items_of v) (row-fits (more_tys t ts))
      (relation-items (more_tys t ts) v o).1)
  items-fit (compound a_partition (more_tys a no_tys)) m v e o =
      let q : compound1 a_set a ≡ m = cc in
      subst (λ x. list_all (is_of p es x) (items_of v) ≡ true) q
      (all-map (is_part (is_of p es a)) (is_of p es (compound1 a_set a)) (items_of v) (part-fits a) (partition-items a v o))
  items-fit (compound a_matrix (more_tys i (more_tys a no_tys))) m v e o =
      let q : a ≡ m = cc in subst (λ x. list_all (is_of p es x) (items_of v) ≡ true) q (matrix-items i a v o)
  items-fit any_ty m v e o = cc
  items-fit _ m v e o = cc

  -- ---- containers built

  pub set-fits : (a : Ty) (xs : List Value) → rises itself xs ≡ true → list_all (is_of p es a) xs ≡ true →
      Of p es (compound1 a_set a) (node a_set (of_list xs))
  set-fits a xs r h =
      subst (λ l. rises itself l && list_all (is_of p es a) l ≡ true) (sym (to_list-of_list xs))
      (and-both (rises itself xs) (list_all (is_of p es a) xs) r h)

  pub mset-fits : (a : Ty) (xs : List Value) → rises_weakly xs ≡ true → list_all (is_of p es a) xs ≡ true →
      Of p es (compound1 a_mset a) (node a_mset (of_list xs))
  mset-fits a xs r h =
      subst (λ l. rises_weakly l && list_all (is_of p es a) l ≡ true) (sym (to_list-of_list xs))
      (and-both (rises_weakly xs) (list_all (is_of p es a) xs) r h)

  pub relation-fits : (ts : Tys) (xs : List Value) → rises itself xs ≡ true → list_all (is_tuple_of p es ts) xs ≡ true →
      Of p es (compound a_relation ts) (node a_relation (of_list xs))
  relation-fits ts xs r h =
      subst (λ l. rises itself l && list_all (is_tuple_of p es ts) l ≡ true) (sym (to_list-of_list xs))
      (and-both (rises itself xs) (list_all (is_tuple_of p es ts) xs) r h)

  pub function-fits : (a b : Ty) (xs : List Value) → rises from_of xs ≡ true → list_all (is_pair_of a b) xs ≡ true →
      Of p es (compound2 a_function a b) (node a_function (of_list xs))
  function-fits a b xs r h =
      subst (λ l. rises from_of l && list_all (is_pair_of a b) l ≡ true) (sym (to_list-of_list xs))
      (and-both (rises from_of xs) (list_all (is_pair_of a b) xs) r h)

  pub partition-fits : (a : Ty) (xs : List Value) → rises itself xs ≡ true → list_all (is_part (is_of p es a)) xs ≡ true →
      not (has_overlap xs) ≡ true →
      Of p es (compound1 a_partition a) (node a_partition (of_list xs))
  partition-fits a xs r h n =
      subst (λ l. rises itself l && list_all (is_part (is_of p es a)) l && not (has_overlap l) ≡ true) (sym (to_list-of_list xs))
      (and-both (rises itself xs && list_all (is_part (is_of p es a)) xs) (not (has_overlap xs))
      (and-both (rises itself xs) (list_all (is_part (is_of p es a)) xs) r h) n)

  pub matrix-fits : (i a : Ty) (is xs : List Value) → rises itself is ≡ true → nat_eq (length is) (length xs) ≡ true →
      list_all (is_of p es i) is ≡ true → list_all (is_of p es a) xs ≡ true →
      Of p es (compound2 a_matrix i a) (matrix (of_list is) (of_list xs))
  matrix-fits i a is xs r n h k =
      subst (λ l. rises itself l && nat_eq (length l) (length (to_list (of_list xs))) && list_all (is_of p es i) l && list_all
      (is_of p es a) (to_list (of_list xs)) ≡ true) (sym (to_list-of_list is))
      (subst (λ l. rises itself is && nat_eq (length is) (length l) && list_all (is_of p es i) is && list_all (is_of p es a) l ≡ true)
      (sym (to_list-of_list xs))
      (and-both (rises itself is && nat_eq (length is) (length xs) && list_all (is_of p es i) is) (list_all (is_of p es a) xs)
      (and-both (rises itself is && nat_eq (length is) (length xs)) (list_all (is_of p es i) is)
      (and-both (rises itself is) (nat_eq (length is) (length xs)) r n) h) k))
