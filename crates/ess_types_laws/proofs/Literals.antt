-- A literal of values of types that fit it has a value of its type, and so has an application.
use Rattle.std.proofs.Common.{◌≡◌, refl, sym, ap, ◌∙◌, subst, ℕ, suc, Bool, true, false, ◌&&◌, not, List, [], ◌∷◌, map, length, Option, Some, None, option_map}
use Rattle.std.specs.List.{list_all}
use Rattle.std.proofs.lemmas.Bool.{eq-eqb}
use Rattle.std.specs.Ordering.{is_eq}
use Rattle.std.specs.declared.cmp.Ordering.{Ordering}
use Rattle.std.specs.declared.cmp.Ordering.TheVariants.{Less, Equal, Greater}
use Rattle.std.proofs.lemmas.Cmp.{tied_itself}
use Rattle.ess_semantics.specs.Lists.{and_then, when, zip, is_empty}
use Rattle.ess_semantics.specs.Values.{Text, a_tuple, a_matrix, a_set, a_function, a_relation, a_partition, Value, truth, node, nil, cons, to_list, of_list, tuple, from_of, to_of, items_of, itself}
use Rattle.ess_semantics.specs.Order.{order_text, same_texts}
use Rattle.ess_semantics.specs.Names.{Names, keys, insert_by, insert_name, by_name}
use Rattle.ess_semantics.specs.Collections.{sorted_once, rises, no_twice, has_double_argument, has_empty_part, has_overlap, relation_of, function_of, partition_of}
use Rattle.ess_semantics.specs.Types.{Ty, Tys, any_ty, bool_ty, int_ty, compound, no_tys, more_tys, compound1, compound2, tys_of}
use Rattle.ess_semantics.specs.OperatorTypes.{type_of_application, function_ty, relation_ty, partition_ty, record_ty}
use Rattle.ess_semantics.specs.Operators.{numbers_from, list_value, record_value, value_of_application}
use Rattle.ess_semantics.specs.Membership.{is_pair, is_part}
use Rattle.ess_semantics.specs.Meaning.{TypeEntry}
use Rattle.ess_semantics.specs.TypeMembers.{is_of, is_tuple_of, are_of}
use Rattle.ess_semantics.proofs.Tests.{and-left, and-right, and-both, or-left-no, or-right-no, not-true}
use Rattle.ess_semantics.proofs.Orders.{to_list-of_list, texts_total}
use Rattle.ess_semantics.proofs.Sorting.{sorted_once-rises, all-sorted_once}
use Rattle.ess_semantics.proofs.Overlaps.{apart-distinct, sorted_once-apart, no-overlap, overlap-none}
use Rattle.ess_types_laws.proofs.Joins.{Of, OfEach, all-map}
use Rattle.ess_types_laws.proofs.Items.{is_pair_of, function-items, relation-fits, function-fits, partition-fits, matrix-fits}
use Rattle.ess_types_laws.proofs.Containers.{numbers-rise, numbers-length, value-at-all, firsts-rise}
use Rattle.ess_types_laws.proofs.Words.{fit-result, made}

module _ (p : Bool) (es : List TypeEntry) where
  -- ---- tuples and records

  pub row-of : (ts : List Ty) (vs : List Value) → OfEach p es ts vs → are_of p es (tys_of ts) vs ≡ true
  row-of [] [] o = refl
  row-of (t ∷ ts) (v ∷ vs) o = and-both (is_of p es t v) (are_of p es (tys_of ts) vs) o.0 (row-of ts vs o.1)
  row-of [] (v ∷ vs) o = absurd o
  row-of (t ∷ ts) [] o = absurd o

  -- Entries with the same names, types here and values of these types there.
  abbrev pub FieldsFit : Names Ty → Names Value → Type 0
  FieldsFit [] [] = Unit {0}
  FieldsFit (t ∷ ts) (v ∷ vs) = (t.0 ≡ v.0) × Of p es t.1 v.1 × FieldsFit ts vs
  FieldsFit _ _ = ⊥

  pub zip-fits : (fs : List Text) (ts : List Ty) (vs : List Value) → OfEach p es ts vs → FieldsFit (zip fs ts) (zip fs vs)
  zip-fits [] ts vs o = tt
  zip-fits (f ∷ fs) [] [] o = tt
  zip-fits (f ∷ fs) (t ∷ ts) (v ∷ vs) o = (refl, o.0, zip-fits fs ts vs o.1)
  zip-fits (f ∷ fs) [] (v ∷ vs) o = absurd o
  zip-fits (f ∷ fs) (t ∷ ts) [] o = absurd o

  insert-fits : (t : Text × Ty) (v : Text × Value) (ts : Names Ty) (vs : Names Value) → t.0 ≡ v.0 → Of p es t.1 v.1 → FieldsFit ts vs →
      FieldsFit (insert_name t ts) (insert_name v vs)
  insert-fits t v [] [] e o f = (e, o, tt)
  insert-fits t v (u ∷ ts) (w ∷ vs) e o f =
      go (order_text t.0 u.0) (order_text v.0 w.0) (ap (λ x. order_text x u.0) e ∙ ap (order_text v.0) f.0) (insert-fits t v ts vs e o f.2)
    where
      go : (a b : Ordering) → a ≡ b → FieldsFit (insert_name t ts) (insert_name v vs) →
          FieldsFit (insert_by a t u ts (insert_name t ts)) (insert_by b v w vs (insert_name v vs))
      go Greater Greater q r = (f.0, f.1, r)
      go Less Less q r = (e, o, f)
      go Equal Equal q r = (e, o, f)
      go Greater Less q r = cc
      go Greater Equal q r = cc
      go Less Greater q r = cc
      go Equal Greater q r = cc
      go Less Equal q r = cc
      go Equal Less q r = cc
  insert-fits t v [] (w ∷ vs) e o f = absurd f
  insert-fits t v (u ∷ ts) [] e o f = absurd f

  pub sorted-fits : (ts : Names Ty) (vs : Names Value) → FieldsFit ts vs → FieldsFit (by_name ts) (by_name vs)
  sorted-fits [] [] f = tt
  sorted-fits (t ∷ ts) (v ∷ vs) f = insert-fits t v (by_name ts) (by_name vs) f.0 f.1 (sorted-fits ts vs f.2)
  sorted-fits [] (v ∷ vs) f = absurd f
  sorted-fits (t ∷ ts) [] f = absurd f

  same-keys : (ts : Names Ty) (vs : Names Value) → FieldsFit ts vs → keys ts ≡ keys vs
  same-keys [] [] f = refl
  same-keys (t ∷ ts) (v ∷ vs) f = ap (λ a. a ∷ keys ts) f.0 ∙ ap (λ l. v.0 ∷ l) (same-keys ts vs f.2)
  same-keys [] (v ∷ vs) f = absurd f
  same-keys (t ∷ ts) [] f = absurd f

  fields-row : (ts : Names Ty) (vs : Names Value) → FieldsFit ts vs → are_of p es (tys_of (map (λ f. f.1) ts)) (map (λ f. f.1) vs) ≡ true
  fields-row [] [] f = refl
  fields-row (t ∷ ts) (v ∷ vs) f = and-both (is_of p es t.1 v.1) (are_of p es (tys_of (map (λ f. f.1) ts)) (map (λ f. f.1) vs)) f.1
      (fields-row ts vs f.2)
  fields-row [] (v ∷ vs) f = absurd f
  fields-row (t ∷ ts) [] f = absurd f

  pub record-fits : (ts : Names Ty) (vs : Names Value) → FieldsFit ts vs → Of p es (record_ty ts) (record_value vs)
  record-fits ts vs f =
      and-both (same_texts (keys ts) (keys vs)) (are_of p es (tys_of (map (λ f. f.1) ts)) (to_list (of_list (map (λ f. f.1) vs))))
      (subst (λ k. same_texts (keys ts) k ≡ true) (same-keys ts vs f) (ap is_eq (tied_itself texts_total (keys ts))))
      (ap (are_of p es (tys_of (map (λ f. f.1) ts))) (to_list-of_list (map (λ f. f.1) vs)) ∙ fields-row ts vs f)

  -- ---- all operands have the type j with which theirs agree

  pub then-type : (o : Option Ty) (f : Ty → Option Ty) (t : Ty) → and_then o f ≡ Some t → (j : Ty) × (o ≡ Some j) × (f j ≡ Some t)
  then-type None f t e = cc
  then-type (Some j) f t e = (j, refl, e)

  pub map-type : (o : Option Ty) (f : Ty → Ty) (t : Ty) → option_map f o ≡ Some t → (j : Ty) × (o ≡ Some j) × (f j ≡ t)
  map-type None f t e = cc
  map-type (Some j) f t e = let q : f j ≡ t = cc in (j, refl, q)

  no-values : (xs : List Value) → list_all (is_of p es any_ty) xs ≡ true → xs ≡ []
  no-values [] h = refl
  no-values (x ∷ xs) h = cc

  -- functions

  pair-of : (a b : Ty) (x : Value) → Of p es (compound2 a_tuple a b) x → is_pair_of p es a b x ≡ true
  pair-of a b (tuple (cons u (cons w nil))) o =
      and-both (is_of p es a u) (is_of p es b w) (and-left (is_of p es a u) (is_of p es b w && true) o)
      (and-left (is_of p es b w) true (and-right (is_of p es a u) (is_of p es b w && true) o))
  pair-of a b (tuple (cons u (cons w (cons z zs)))) o = absurd (no (is_of p es a u) (is_of p es b w) o)
    where
      no : (x y : Bool) → x && (y && false) ≡ true → ⊥
      no true true h = cc
      no true false h = cc
      no false y h = cc
  pair-of a b (tuple (cons u nil)) o = absurd (no (is_of p es a u) o)
    where
      no : (x : Bool) → x && false ≡ true → ⊥
      no true h = cc
      no false h = cc
  pair-of a b _ o = cc

  is-pair : (a b : Ty) (x : Value) → is_pair_of p es a b x ≡ true → is_pair x ≡ true
  is-pair a b x h = and-left (is_pair x) (is_of p es a (from_of x))
      (and-left (is_pair x && is_of p es a (from_of x)) (is_of p es b (to_of x)) h)

  when-some : (b : Bool) (x v : Value) → when b x ≡ Some v → (b ≡ true) × (x ≡ v)
  when-some true x v e = (refl, cc)
  when-some false x v e = cc

  not-not : (b : Bool) → not (not b) ≡ true → b ≡ true
  not-not true e = refl
  not-not false e = cc

  pub function-made : (j t : Ty) (xs : List Value) (v : Value) → function_ty j ≡ Some t → list_all (is_of p es j) xs ≡ true →
      function_of xs ≡ Some v → Of p es t v
  function-made (compound a_tuple (more_tys a (more_tys b no_tys))) t xs v e o h =
      let z : compound2 a_function a b ≡ t = cc in
      let w = when-some (not (has_double_argument xs)) (node a_function (of_list (sorted_once xs))) v h in
      let q : list_all (is_pair_of p es a b) (sorted_once xs) ≡ true =
      all-sorted_once (is_pair_of p es a b) xs ∙ all-map (is_of p es (compound2 a_tuple a b)) (is_pair_of p es a b) xs (pair-of a b) o in
      subst (λ y. Of p es y v) z (subst (λ y. Of p es (compound2 a_function a b) y) w.1
      (function-fits p es a b (sorted_once xs)
      (firsts-rise (sorted_once xs) (all-map (is_pair_of p es a b) is_pair (sorted_once xs) (is-pair a b) q) (sorted_once-rises xs)
      (not-not (no_twice from_of (sorted_once xs)) w.0)) q))
  function-made any_ty t xs v e o h =
      let z : compound2 a_function any_ty any_ty ≡ t = cc in
      let w : function_of [] ≡ Some v = ap function_of (sym (no-values xs o)) ∙ h in
      let y : node a_function nil ≡ v = cc in
      subst (λ y. Of p es y v) z (subst (λ y. Of p es (compound2 a_function any_ty any_ty) y) y refl)
  function-made _ t xs v e o h = cc

  -- relations

  row-tuple : (u : Ty) (us : Tys) (x : Value) → Of p es (compound a_tuple (more_tys u us)) x → is_tuple_of p es (more_tys u us) x ≡ true
  row-tuple u us (tuple (cons v vs)) o = o
  row-tuple u us _ o = cc

  pub relation-made : (j t : Ty) (xs : List Value) (v : Value) → (j ≡ compound a_tuple no_tys → ⊥) → relation_ty j ≡ Some t →
      list_all (is_of p es j) xs ≡ true → Some (relation_of xs) ≡ Some v → Of p es t v
  relation-made (compound a_tuple no_tys) t xs v n e o h = absurd (n refl)
  relation-made (compound a_tuple (more_tys u us)) t xs v n e o h =
      let z : compound a_relation (more_tys u us) ≡ t = cc in
      made p es (compound a_relation (more_tys u us)) t (relation_of xs) v z h
      (relation-fits p es (more_tys u us) (sorted_once xs) (sorted_once-rises xs)
      (all-sorted_once (is_tuple_of p es (more_tys u us)) xs
      ∙ all-map (is_of p es (compound a_tuple (more_tys u us))) (is_tuple_of p es (more_tys u us)) xs (row-tuple u us) o))
  relation-made any_ty t xs v n e o h =
      let z : compound a_relation no_tys ≡ t = cc in
      let w : Some (relation_of []) ≡ Some v = ap (λ l. Some (relation_of l)) (sym (no-values xs o)) ∙ h in
      let y : node a_relation nil ≡ v = cc in
      subst (λ y. Of p es y v) z (subst (λ y. Of p es (compound a_relation no_tys) y) y refl)
  relation-made _ t xs v n e o h = cc

  -- partitions

  part-of : (a : Ty) (x : Value) → Of p es (compound1 a_set a) x → is_empty (items_of x) ≡ false → is_part (is_of p es a) x ≡ true
  part-of a (node a_set xs) o n =
      and-both (rises itself (to_list xs) && not (is_empty (to_list xs))) (list_all (is_of p es a) (to_list xs))
      (and-both (rises itself (to_list xs)) (not (is_empty (to_list xs)))
      (and-left (rises itself (to_list xs)) (list_all (is_of p es a) (to_list xs)) o) (ap not n))
      (and-right (rises itself (to_list xs)) (list_all (is_of p es a) (to_list xs)) o)
  part-of a _ o n = cc

  parts-of : (a : Ty) (xs : List Value) → list_all (is_of p es (compound1 a_set a)) xs ≡ true → has_empty_part xs ≡ false →
      list_all (is_part (is_of p es a)) xs ≡ true
  parts-of a [] o n = refl
  parts-of a (x ∷ xs) o n =
      and-both (is_part (is_of p es a) x) (list_all (is_part (is_of p es a)) xs)
      (part-of a x (and-left (is_of p es (compound1 a_set a) x) (list_all (is_of p es (compound1 a_set a)) xs) o)
      (or-left-no (is_empty (items_of x)) (has_empty_part xs) n))
      (parts-of a xs (and-right (is_of p es (compound1 a_set a) x) (list_all (is_of p es (compound1 a_set a)) xs) o)
      (or-right-no (is_empty (items_of x)) (has_empty_part xs) n))

  pub partition-made : (j t : Ty) (xs : List Value) (v : Value) → partition_ty j ≡ Some t → list_all (is_of p es j) xs ≡ true →
      partition_of xs ≡ Some v → Of p es t v
  partition-made (compound a_set (more_tys a no_tys)) t xs v e o h =
      let z : compound1 a_partition a ≡ t = cc in
      let w = when-some (not (has_empty_part xs) && not (has_overlap xs)) (node a_partition (of_list (sorted_once xs))) v h in
      let n : has_empty_part xs ≡ false = not-true (has_empty_part xs) (and-left (not (has_empty_part xs)) (not (has_overlap xs)) w.0) in
      let d = no-overlap xs (and-right (not (has_empty_part xs)) (not (has_overlap xs)) w.0) in
      subst (λ y. Of p es y v) z (subst (λ y. Of p es (compound1 a_partition a) y) w.1
      (partition-fits p es a (sorted_once xs) (sorted_once-rises xs) (all-sorted_once (is_part (is_of p es a)) xs ∙ parts-of a xs o n)
      (overlap-none (sorted_once xs) (sorted_once-apart xs (apart-distinct xs n d) d))))
  partition-made any_ty t xs v e o h =
      let z : compound1 a_partition any_ty ≡ t = cc in
      let w : partition_of [] ≡ Some v = ap partition_of (sym (no-values xs o)) ∙ h in
      let y : node a_partition nil ≡ v = cc in
      subst (λ y. Of p es y v) z (subst (λ y. Of p es (compound1 a_partition any_ty) y) y refl)
  partition-made _ t xs v e o h = cc

  -- lists

  numbers-are : (k : ℕ) (xs : List Value) → list_all (is_of p es int_ty) (numbers_from k xs) ≡ true
  numbers-are k [] = refl
  numbers-are k (x ∷ xs) = numbers-are (suc k) xs

  -- A list of values of a type.
  pub list-fits : (a : Ty) (xs : List Value) → list_all (is_of p es a) xs ≡ true → Of p es (compound2 a_matrix int_ty a) (list_value xs)
  list-fits a xs h =
      matrix-fits p es int_ty a (numbers_from 1 xs) xs (numbers-rise 1 xs)
      (eq-eqb (length (numbers_from 1 xs)) (length xs) (numbers-length 1 xs)) (numbers-are 1 xs) h

  -- ---- applications

  pub application-fits : (t : Ty) (ts : List Ty) (u : Ty) (x : Value) (vs : List Value) (v : Value) → type_of_application t ts ≡ Some u →
      Of p es t x → value_of_application x vs ≡ Some v → Of p es u v
  application-fits (compound a_function (more_tys a (more_tys b no_tys))) (c ∷ []) u (node a_function ps) (y ∷ []) v e o h =
      let z : b ≡ u = fit-result a c b u e in
      subst (λ y. Of p es y v) z
      (value-at-all (is_of p es b) (to_list ps) y v
      (all-map (is_pair_of p es a b) (λ y. is_of p es b (to_of y)) (to_list ps)
      (λ x h. and-right (is_pair x && is_of p es a (from_of x)) (is_of p es b (to_of x)) h)
      (function-items p es a b (node a_function ps) o)) h)
  application-fits (compound a_relation rs) ts u (node a_relation ps) vs v e o h =
      let z : bool_ty ≡ u = fit-result (compound a_relation rs) (compound a_relation (tys_of ts)) bool_ty u e in
      go _ z h
    where
      go : (b : Bool) → bool_ty ≡ u → Some (truth b) ≡ Some v → Of p es u v
      go b z h = let y : truth b ≡ v = cc in subst (λ c. Of p es c v) z (subst (λ c. Of p es bool_ty c) y refl)
  application-fits (compound a_function (more_tys a (more_tys b no_tys))) (c ∷ []) u (node a_function ps) [] v e o h = cc
  application-fits (compound a_function (more_tys a (more_tys b no_tys))) (c ∷ []) u (node a_function ps) (y ∷ z ∷ vs) v e o h = cc
  application-fits (compound a_function (more_tys a (more_tys b no_tys))) (c ∷ []) u _ vs v e o h = cc
  application-fits (compound a_relation rs) ts u _ vs v e o h = cc
  application-fits any_ty ts u x vs v e o h = cc
  application-fits _ ts u x vs v e o h = cc
