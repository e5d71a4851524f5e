-- What an operator on two numbers, sets or relations gives has the type of its result.
use Rattle.std.proofs.Common.{◌≡◌, refl, ap, ◌∙◌, subst, Bool, true, false, not, List, ◌++◌, filter, ℤ, Option, Some, None, option_map}
use Rattle.std.specs.List.{list_all}
use Rattle.std.proofs.lemmas.List.Folds.{list_all-append}
use Rattle.ess_semantics.specs.declared.words.Op1.{Op1}
use Rattle.ess_semantics.specs.declared.words.Op2.{Op2}
use Rattle.ess_semantics.specs.Lists.{and_then}
use Rattle.ess_semantics.specs.Values.{a_tuple, a_matrix, a_set, a_mset, a_function, a_relation, a_partition, a_record, Value, number, truth, item, node, to_list, of_list, items_of, itself}
use Rattle.ess_semantics.specs.Collections.{holds, sorted_once, rises}
use Rattle.ess_semantics.specs.Trees.{is_truth_op1, is_truth_op2}
use Rattle.ess_semantics.specs.Types.{Ty, Tys, any_ty, bool_ty, int_ty, named_ty, compound, no_tys, more_tys, join, fit}
use Rattle.ess_semantics.specs.OperatorTypes.{sized, united, subtracted, type_of_unary, type_of_binary}
use Rattle.ess_semantics.specs.Operators.{of_same_kind, value_of_unary, value_of_binary}
use Rattle.ess_semantics.specs.Meaning.{TypeEntry}
use Rattle.ess_semantics.specs.TypeMembers.{is_of, is_tuple_of}
use Rattle.ess_semantics.proofs.Tests.{and-both}
use Rattle.ess_semantics.proofs.Sorting.{sorted_once-rises, all-sorted_once}
use Rattle.ess_types_laws.proofs.Joins.{Of, join-both}
use Rattle.ess_types_laws.proofs.Items.{set-items, relation-items, set-fits, relation-fits}
use Rattle.ess_types_laws.proofs.Containers.{filter-rises, all-filtered}
use Rattle.ess_types_laws.proofs.Words.{fit-result, number-fits, whole-fits}

sized-int : (a t : Ty) → sized a ≡ Some t → int_ty ≡ t
sized-int int_ty t e = cc
sized-int any_ty t e = cc
sized-int (compound a_set ts) t e = cc
sized-int (compound a_mset ts) t e = cc
sized-int (compound a_function ts) t e = cc
sized-int (compound a_relation ts) t e = cc
sized-int _ t e = cc

arithmetic : (o : Option Ty) (t : Ty) → and_then o (λ j. fit j int_ty int_ty) ≡ Some t → int_ty ≡ t
arithmetic None t e = cc
arithmetic (Some j) t e = fit-result j int_ty int_ty t e

joined : (o : Option Ty) (f : Ty → Option Ty) (t : Ty) → and_then o f ≡ Some t → (j : Ty) × (o ≡ Some j) × (f j ≡ Some t)
joined None f t e = cc
joined (Some j) f t e = (j, refl, e)

module _ (p : Bool) (es : List TypeEntry) where
  -- What an operator on one operand gives.
  pub unary-fits : (o : Op1) (a t : Ty) (x v : Value) → is_truth_op1 o ≡ false → type_of_unary o a ≡ Some t →
      value_of_unary o x ≡ Some v → Of p es t v
  unary-fits Op1.Minus a t x v n e h = whole-fits p es _ t v (fit-result a int_ty int_ty t e) h
  unary-fits Op1.Not a t x v n e h = cc
  unary-fits Op1.Bar a t (node k xs) v n e h = whole-fits p es _ t v (sized-int a t e) h
  unary-fits Op1.Bar a t (number m) v n e h = whole-fits p es _ t v (sized-int a t e) h
  unary-fits Op1.Bar a t (truth b) v n e h = whole-fits p es _ t v (sized-int a t e) h
  unary-fits Op1.Bar a t (item u k) v n e h = whole-fits p es _ t v (sized-int a t e) h

  -- ---- sets and relations

  -- Some members of two sets or relations, as one.
  united-fits : (j t : Ty) (x y : Value) (ws : List Value) (v : Value) → united j ≡ Some t → Of p es j x → Of p es j y →
      (rises itself (items_of x) ≡ true → rises itself ws ≡ true) →
      ((h : Value → Bool) → list_all h (items_of x) ≡ true → list_all h (items_of y) ≡ true → list_all h ws ≡ true) →
      Some (of_same_kind x ws) ≡ Some v → Of p es t v
  united-fits (compound a_set (more_tys a no_tys)) t (node a_set xs) y ws v e o q r f h =
      let z : compound a_set (more_tys a no_tys) ≡ t = cc in let w : node a_set (of_list ws) ≡ v = cc in
      let s = set-items p es a (node a_set xs) o in
      subst (λ c. Of p es c v) z
      (subst (λ c. Of p es (compound a_set (more_tys a no_tys)) c) w
      (set-fits p es a ws (r s.0) (f (is_of p es a) s.1 (set-items p es a y q).1)))
  united-fits (compound a_relation ts) t (node a_relation xs) y ws v e o q r f h =
      let z : compound a_relation ts ≡ t = cc in let w : node a_relation (of_list ws) ≡ v = cc in
      let s = relation-items p es ts (node a_relation xs) o in
      subst (λ c. Of p es c v) z
      (subst (λ c. Of p es (compound a_relation ts) c) w
      (relation-fits p es ts ws (r s.0) (f (is_tuple_of p es ts) s.1 (relation-items p es ts y q).1)))
  united-fits any_ty t x y ws v e o q r f h = cc
  united-fits _ t x y ws v e o q r f h = cc

  -- What is left of a set or relation.
  abbrev left : Value → Value → List Value
  left x y = filter (λ z. not (holds (items_of y) z)) (items_of x)

  minus-set : (a t : Ty) (x y v : Value) → compound a_set (more_tys a no_tys) ≡ t → Of p es (compound a_set (more_tys a no_tys)) x →
      Of p es (compound a_set (more_tys a no_tys)) y →
      value_of_binary Op2.Minus x y ≡ Some v → Of p es t v
  minus-set a t (node a_set xs) y v e o q h =
      united-fits (compound a_set (more_tys a no_tys)) t (node a_set xs) y (left (node a_set xs) y) v (ap Some e) o q
      (filter-rises (λ z. not (holds (items_of y) z)) (to_list xs))
      (λ f r s. all-filtered f (λ z. not (holds (items_of y) z)) (to_list xs) r) h
  minus-set a t _ y v e o q h = cc

  minus-relation : (ts : Tys) (t : Ty) (x y v : Value) → compound a_relation ts ≡ t → Of p es (compound a_relation ts) x →
      Of p es (compound a_relation ts) y →
      value_of_binary Op2.Minus x y ≡ Some v → Of p es t v
  minus-relation ts t (node a_relation xs) y v e o q h =
      united-fits (compound a_relation ts) t (node a_relation xs) y (left (node a_relation xs) y) v (ap Some e) o q
      (filter-rises (λ z. not (holds (items_of y) z)) (to_list xs))
      (λ f r s. all-filtered f (λ z. not (holds (items_of y) z)) (to_list xs) r) h
  minus-relation ts t _ y v e o q h = cc

  minus-int : (t : Ty) (x y v : Value) → int_ty ≡ t → Of p es int_ty x → value_of_binary Op2.Minus x y ≡ Some v → Of p es t v
  minus-int t (number n) y v e o h = whole-fits p es _ t v e h
  minus-int t _ y v e o h = cc

  minus-fits : (j t : Ty) (x y v : Value) → subtracted j ≡ Some t → Of p es j x → Of p es j y → value_of_binary Op2.Minus x y ≡ Some v →
      Of p es t v
  minus-fits int_ty t x y v e o q h = let z : int_ty ≡ t = cc in minus-int t x y v z o h
  minus-fits (compound a_set (more_tys a no_tys)) t x y v e o q h = let z : compound a_set (more_tys a no_tys) ≡ t = cc in
      minus-set a t x y v z o q h
  minus-fits (compound a_set no_tys) t x y v e o q h = absurd (no x o)
    where
      no : (x : Value) → Of p es (compound a_set no_tys) x → ⊥
      no _ o = cc
  minus-fits (compound a_set (more_tys a (more_tys b ts))) t x y v e o q h = absurd (no x o)
    where
      no : (x : Value) → Of p es (compound a_set (more_tys a (more_tys b ts))) x → ⊥
      no _ o = cc
  minus-fits (compound a_relation ts) t x y v e o q h = let z : compound a_relation ts ≡ t = cc in minus-relation ts t x y v z o q h
  minus-fits any_ty t x y v e o q h = cc
  minus-fits bool_ty t x y v e o q h = cc
  minus-fits (named_ty n) t x y v e o q h = cc
  minus-fits (compound a_tuple ts) t x y v e o q h = cc
  minus-fits (compound a_matrix ts) t x y v e o q h = cc
  minus-fits (compound a_mset ts) t x y v e o q h = cc
  minus-fits (compound a_function ts) t x y v e o q h = cc
  minus-fits (compound a_partition ts) t x y v e o q h = cc
  minus-fits (compound (a_record fs) ts) t x y v e o q h = cc

  arithmetic-fits : (o : Option ℤ) (a b t : Ty) (v : Value) → and_then (join a b) (λ j. fit j int_ty int_ty) ≡ Some t →
      option_map number o ≡ Some v → Of p es t v
  arithmetic-fits o a b t v e h = number-fits p es o t v (arithmetic (join a b) t e) h

  -- What an operator on two operands gives.
  pub binary-fits : (o : Op2) (a b t : Ty) (x y v : Value) → is_truth_op2 o ≡ false → type_of_binary o a b ≡ Some t → Of p es a x →
      Of p es b y → value_of_binary o x y ≡ Some v → Of p es t v
  binary-fits Op2.Pow a b t x y v n e k l h = arithmetic-fits _ a b t v e h
  binary-fits Op2.Div a b t x y v n e k l h = arithmetic-fits _ a b t v e h
  binary-fits Op2.Mod a b t x y v n e k l h = arithmetic-fits _ a b t v e h
  binary-fits Op2.Times a b t x y v n e k l h = arithmetic-fits (Some _) a b t v e h
  binary-fits Op2.Plus a b t x y v n e k l h = arithmetic-fits (Some _) a b t v e h
  binary-fits Op2.Intersect a b t x y v n e k l h =
      let r = joined (join a b) united t e in let s = join-both p es a b r.0 r.1 in
      united-fits r.0 t x y (filter (λ z. holds (items_of y) z) (items_of x)) v r.2 (s.0 x k) (s.1 y l)
      (filter-rises (λ z. holds (items_of y) z) (items_of x))
      (λ f c d. all-filtered f (λ z. holds (items_of y) z) (items_of x) c) h
  binary-fits Op2.Union a b t x y v n e k l h =
      let r = joined (join a b) united t e in let s = join-both p es a b r.0 r.1 in
      united-fits r.0 t x y (sorted_once (items_of x ++ items_of y)) v r.2 (s.0 x k) (s.1 y l)
      (λ c. sorted_once-rises (items_of x ++ items_of y))
      (λ f c d. all-sorted_once f (items_of x ++ items_of y) ∙ list_all-append f (items_of x) (items_of y)
      ∙ and-both (list_all f (items_of x)) (list_all f (items_of y)) c d) h
  binary-fits Op2.Minus a b t x y v n e k l h =
      let r = joined (join a b) subtracted t e in let s = join-both p es a b r.0 r.1 in minus-fits r.0 t x y v r.2 (s.0 x k) (s.1 y l) h
  binary-fits _ a b t x y v n e k l h = cc
