-- Rules keep types.
use Rattle.std.proofs.Common.{◌≡◌, refl, ap, ◌∙◌, Bool, true, false, if◌then◌else◌, List, [], ◌∷◌, pos, Option, Some, None, subst, option_map}
use Rattle.ess_semantics.specs.declared.words.Op2.{Op2}
use Rattle.ess_semantics.specs.declared.words.Fun.{Fun}
use Rattle.ess_semantics.specs.Lists.{and_then}
use Rattle.ess_semantics.specs.Values.{Text, a_function, a_matrix, a_tuple}
use Rattle.ess_semantics.specs.Names.{Names}
use Rattle.ess_semantics.specs.Trees.{to_component, word, index, tuple_literal, matrix_literal, name_pat, Ex, name_ex, node_ex, comp_ex, ex2, fun1, no_exs, more_exs, no_gens, from, binary, number_ex, truth_ex, ex1}
use Rattle.ess_semantics.specs.Types.{Ty, no_tys, more_tys, compound, compound2}
use Rattle.ess_semantics.specs.Typing.{type_of, part_ty}
use Rattle.ess_rules_laws.specs.LiteralRules.{nth, component_listed}
use Rattle.ess_rules_laws.specs.InclusionRules.{both_sets, unequal}
use Rattle.ess_rules_laws.specs.ComponentRules.{component_of}
use Rattle.ess_refine_laws.specs.AllRules.{Supply, Rule, over_nothing, over_one, over_one_binding, over_a_term, over_a_made_set, over_tuples, over_a_condition, component_of_a_tuple, not_equal, turned, strictly, with_nothing, size_of_one_made_of_another, size, frequency_in_one_made_of_another, least_of_a_literal, list_of_a_term, choice, compares_compound, rewrite}
use Rattle.ess_semantics.specs.declared.words.Op1.{Op1}
use Rattle.ess_rules_laws.specs.ContainerListings.{of_function, range_as_set}
use Rattle.ess_rules_laws.specs.MatrixRules.{is_matrix, equal_to_nothing}
use Rattle.ess_rules_laws.specs.SizeRules.{is_counted, size_term}
use Rattle.ess_rules_laws.specs.ShortSizeRules.{is_function, is_partition, size_made, frequency_made}
use Rattle.std.proofs.Common.{sym}
use Rattle.std.specs.Prelude.{is_some}
use Rattle.ess_semantics.specs.Lists.{all_some}
use Rattle.ess_semantics.specs.Values.{a_set, a_mset, a_relation, a_partition}
use Rattle.ess_semantics.specs.Trees.{unary}
use Rattle.ess_semantics.specs.Types.{any_ty, bool_ty, int_ty, named_ty, compound1, tys_of, join}
use Rattle.ess_semantics.specs.OperatorTypes.{member_ty}
use Rattle.ess_semantics.specs.Typing.{a_number, a_name, other, type_of_node, part_ty, types_of}
use Rattle.ess_rules_laws.proofs.Agreement.{look-itself}
use Rattle.ess_refine_laws.proofs.TypesOfFolds.{one_type, two_type, list_of_type, Stays, TypeKept}
use Rattle.ess_refine_laws.specs.AllRules.{Rule, over_nothing, over_one, over_one_binding, over_a_term, over_a_made_set, over_a_condition, over_tuples, component_of_a_tuple, not_equal, turned, strictly, with_nothing, size, size_of_one_made_of_another, frequency_in_one_made_of_another, least_of_a_literal, list_of_a_term, results, choice, compares_compound, rewrite}
use Rattle.ess_refine_laws.specs.TypesOfRules.{keeps_type, TypeTold, RulesKeepTypes}
use Rattle.ess_refine_laws.proofs.TypesOfFolds.{nothing, one-item, bare, alone, loosely, term}
use Rattle.ess_refine_laws.proofs.TypeJoins.{join-swap}
use Rattle.ess_refine_laws.proofs.TypesOfComparisons.{apart, turns, strict, splits, shorter, list-of-term, least-listed, nth-type}

module _ (g : Names Ty) where
  -- ---- components

  component : (e : Ex) → TypeKept g e (component_listed e)
  component (node_ex b (index (to_component k ∷ [])) (more_exs (node_ex false tuple_literal es) no_exs)) = go (nth es k) refl
    where
      parts : (t : Ty) (o : Option (List Ty)) →
          type_of_node (index (to_component k ∷ [])) (other ∷ []) (and_then o (λ ts. Some (compound a_tuple (tys_of ts))) ∷ []) ≡ Some t →
          and_then (and_then o (λ ts. Some (compound a_tuple (tys_of ts)))) (λ u. and_then (part_ty u (a_number k))
          (λ v. Some v)) ≡ Some t
      parts t None q = cc
      parts t (Some ts) q = q

      go : (r : Option Ex) → nth es k ≡ r →
          TypeKept g (node_ex b (index (to_component k ∷ [])) (more_exs (node_ex false tuple_literal es) no_exs)) r
      go None n = tt
      go (Some a) n = λ t q. nth-type g es k a t (all_some (types_of es g)) refl n (parts t (all_some (types_of es g)) q)
  component _ = tt

  -- ---- what is made of functions, matrices and containers

  result-type : (x : Text) (t u : Ty) →
      one_type (word Fun.ToSet) (list_of_type (type_of (component_of u 2 (name_ex x)) ((x, compound2 a_tuple t u) ∷ g))) ≡ Some
      (compound1 a_set u)
  result-type x t u =
      ap (λ o. one_type (word Fun.ToSet) (list_of_type (type_of_node (index (to_component 2 ∷ [])) (a_name x ∷ []) (o ∷ []))))
      (look-itself x (compound2 a_tuple t u) g)

  range-typed : (x : Text) (e : Ex) → TypeKept g e (range_as_set g x e)
  range-typed x (fun1 false Fun.Range f) = go (type_of f g) refl
    where
      go : (o : Option Ty) → type_of f g ≡ o → TypeKept g (fun1 false Fun.Range f) (of_function o
          (λ t u. fun1 false Fun.ToSet (comp_ex (component_of u 2 (name_ex x)) (from (name_pat x) f no_gens))))
      go (Some (compound2 a_function t u)) p = λ s q.
          ap (λ o. one_type (word Fun.ToSet) (and_then (and_then (and_then o member_ty) (λ m. Some ((x, m) ∷ g)))
          (λ h. list_of_type (type_of (component_of u 2 (name_ex x)) h)))) p
          ∙ result-type x t u ∙ ap (λ o. one_type (word Fun.Range) o) (sym p) ∙ q
      go _ p = tt
  range-typed x _ = tt

  -- The type of a term with one for each member.
  ones-type : (x : Text) (s e : Ex) (u : Ty) → ((h : Names Ty) → type_of e h ≡ Some u) → is_some (and_then (type_of s g) member_ty) ≡ true →
      type_of (comp_ex e (from (name_pat x) s no_gens)) g ≡ Some (compound2 a_matrix int_ty u)
  ones-type x s e u h k = go (and_then (type_of s g) member_ty) k
    where
      go : (m : Option Ty) → is_some m ≡ true →
          and_then (and_then m (λ t. Some ((x, t) ∷ g))) (λ i. list_of_type (type_of e i)) ≡ Some (compound2 a_matrix int_ty u)
      go None k = cc
      go (Some t) k = ap list_of_type (h ((x, t) ∷ g))

  sized-int : (o : Option Ty) → is_counted o ≡ true → one_type (unary Op1.Bar) o ≡ Some int_ty
  sized-int (Some (compound a_set ts)) k = refl
  sized-int (Some (compound a_mset ts)) k = refl
  sized-int (Some (compound a_function ts)) k = refl
  sized-int (Some (compound a_relation ts)) k = refl
  sized-int _ k = cc

  sized-typed : (x : Text) (e : Ex) → TypeTold g size e → TypeKept g e (size_term g x e)
  sized-typed x (ex1 false Op1.Bar s) k = go (is_counted (type_of s g)) refl
    where
      go : (c : Bool) → is_counted (type_of s g) ≡ c → TypeKept g (ex1 false Op1.Bar s)
          (if c then Some (fun1 false Fun.Sum (comp_ex (number_ex (pos 1)) (from (name_pat x) s no_gens))) else None)
      go true p = λ t q.
          ap (λ o. one_type (word Fun.Sum) o) (ones-type x s (number_ex (pos 1)) int_ty (λ h. refl) k) ∙ sym (sized-int (type_of s g) p) ∙ q
      go false p = tt
  sized-typed x _ k = tt

  matrix-members : (o : Option Ty) → is_matrix o ≡ true → is_some (and_then o member_ty) ≡ true
  matrix-members (Some (compound2 a_matrix i t)) k = refl
  matrix-members _ k = cc

  -- An equation is a truth value.
  equation : (o p : Option Ty) (t : Ty) → two_type (binary Op2.Eq) o p ≡ Some t → t ≡ bool_ty
  equation None p t q = cc
  equation (Some u) None t q = cc
  equation (Some u) (Some v) t q = go (join u v) q
    where
      go : (j : Option Ty) → option_map (λ w. bool_ty) j ≡ Some t → t ≡ bool_ty
      go None q = cc
      go (Some w) q = cc

  no-items-type : (x : Text) (a : Ex) → is_matrix (type_of a g) ≡ true →
      type_of (ex1 true Op1.Not (fun1 true Fun.Or (comp_ex (truth_ex true) (from (name_pat x) a no_gens)))) g ≡ Some bool_ty
  no-items-type x a k = ap (λ o. one_type (unary Op1.Not) (one_type (word Fun.Or) o))
      (ones-type x a (truth_ex true) bool_ty (λ h. refl) (matrix-members (type_of a g) k))

  empty-typed : (x : Text) (a b c : Ex) (o : Bool) → is_matrix (type_of c g) ≡ o → TypeKept g (ex2 true Op2.Eq a b)
      (if o then Some (ex1 true Op1.Not (fun1 true Fun.Or (comp_ex (truth_ex true) (from (name_pat x) c no_gens)))) else None)
  empty-typed x a b c true k = λ t q. no-items-type x c k ∙ ap Some (sym (equation (type_of a g) (type_of b g) t q))
  empty-typed x a b c false k = tt

  nothing-typed : (x : Text) (e : Ex) → TypeKept g e (equal_to_nothing g x e)
  nothing-typed x (ex2 true Op2.Eq a (node_ex false matrix_literal no_exs)) =
      empty-typed x a (node_ex false matrix_literal no_exs) a (is_matrix (type_of a g)) refl
  nothing-typed x (ex2 true Op2.Eq (node_ex false matrix_literal no_exs) a) =
      empty-typed x (node_ex false matrix_literal no_exs) a a (is_matrix (type_of a g)) refl
  nothing-typed x _ = tt

  -- ---- what is made of containers

  function-size : (o : Option Ty) → is_function o ≡ true → one_type (unary Op1.Bar) o ≡ Some int_ty
  function-size (Some (compound a_function ts)) k = refl
  function-size _ k = cc

  set-size : (o : Option Ty) → both_sets o o ≡ true → one_type (unary Op1.Bar) o ≡ Some int_ty
  set-size (Some (compound a_set ts)) k = refl
  set-size (Some (compound a_relation ts)) k = refl
  set-size _ k = cc

  -- A size is a number.
  size-number : (o : Option Ty) (t : Ty) → one_type (unary Op1.Bar) o ≡ Some t → t ≡ int_ty
  size-number None t q = cc
  size-number (Some int_ty) t q = cc
  size-number (Some any_ty) t q = cc
  size-number (Some bool_ty) t q = cc
  size-number (Some (named_ty a)) t q = cc
  size-number (Some (compound a_set ts)) t q = cc
  size-number (Some (compound a_mset ts)) t q = cc
  size-number (Some (compound a_function ts)) t q = cc
  size-number (Some (compound a_relation ts)) t q = cc
  size-number (Some (compound _ ts)) t q = cc

  -- Under a test that tells the size.
  sized-so : (c : Bool) (m f : Ex) → (c ≡ true → type_of f g ≡ Some int_ty) → TypeKept g (ex1 false Op1.Bar m) (if c then Some f else None)
  sized-so true m f h = λ t q. h refl ∙ ap Some (sym (size-number (type_of m g) t q))
  sized-so false m f h = tt

  parts-there : (o : Option Ty) (t : Ty) → one_type (unary Op1.Bar) (one_type (word Fun.Parts) o) ≡ Some t → is_partition o ≡ true →
      is_some (and_then o member_ty) ≡ true
  parts-there (Some (compound1 a_partition a)) t q k = refl
  parts-there (Some (compound a_partition no_tys)) t q k = cc
  parts-there (Some (compound a_partition (more_tys a (more_tys b ts)))) t q k = cc
  parts-there _ t q k = cc

  size-made-typed : (x : Text) (e : Ex) → TypeKept g e (size_made g x e)
  size-made-typed x (ex1 false Op1.Bar (fun1 false Fun.Defined f)) =
      sized-so (is_function (type_of f g)) (fun1 false Fun.Defined f) (ex1 false Op1.Bar f) (function-size (type_of f g))
  size-made-typed x (ex1 false Op1.Bar (fun1 false Fun.ToRelation f)) =
      sized-so (is_function (type_of f g)) (fun1 false Fun.ToRelation f) (ex1 false Op1.Bar f) (function-size (type_of f g))
  size-made-typed x (ex1 false Op1.Bar (fun1 false Fun.ToMSet m)) =
      sized-so (is_counted (type_of m g)) (fun1 false Fun.ToMSet m) (ex1 false Op1.Bar m) (sized-int (type_of m g))
  size-made-typed x (ex1 false Op1.Bar (fun1 false Fun.ToSet m)) =
      sized-so (both_sets (type_of m g) (type_of m g)) (fun1 false Fun.ToSet m) (ex1 false Op1.Bar m) (set-size (type_of m g))
  size-made-typed x (ex1 false Op1.Bar (fun1 false Fun.Parts p)) = go (is_partition (type_of p g)) refl
    where
      go : (c : Bool) → is_partition (type_of p g) ≡ c → TypeKept g (ex1 false Op1.Bar (fun1 false Fun.Parts p))
          (if c then Some (fun1 false Fun.Sum (comp_ex (number_ex (pos 1)) (from (name_pat x) p no_gens))) else None)
      go true k = λ t q.
          ap (λ o. one_type (word Fun.Sum) o) (ones-type x p (number_ex (pos 1)) int_ty (λ h. refl) (parts-there (type_of p g) t q k))
          ∙ ap Some (sym (size-number (one_type (word Fun.Parts) (type_of p g)) t q))
      go false k = tt
  size-made-typed x _ = tt

  -- How often a value is in a multiset made of a set says whether it is there.
  made-frequency : (o p : Option Ty) → both_sets o o ≡ true →
      Stays (two_type (word Fun.Freq) (one_type (word Fun.ToMSet) o) p) (one_type (word Fun.ToInt) (two_type (binary Op2.Member) p o))
  made-frequency (Some (compound1 a_set m)) None k t q = cc
  made-frequency (Some (compound1 a_set m)) (Some u) k t q = go (join m u) (join u m) (join-swap m u) q
    where
      go : (i j : Option Ty) → i ≡ j →
          option_map (λ v. int_ty) (option_map (compound a_mset) (and_then i (λ v. option_map (more_tys v) (Some no_tys)))) ≡ Some t →
          one_type (word Fun.ToInt) (option_map (λ v. bool_ty) j) ≡ Some t
      go None j e q = cc
      go (Some v) None e q = cc
      go (Some v) (Some w) e q = q
  made-frequency (Some (compound a_set no_tys)) None k t q = cc
  made-frequency (Some (compound a_set no_tys)) (Some u) k t q = cc
  made-frequency (Some (compound a_set (more_tys a (more_tys b ts)))) None k t q = cc
  made-frequency (Some (compound a_set (more_tys a (more_tys b ts)))) (Some u) k t q = cc
  made-frequency (Some (compound a_relation ts)) None k t q = cc
  made-frequency (Some (compound a_relation ts)) (Some u) k t q = cc
  made-frequency _ p k t q = cc

  frequency-typed : (x : Text) (e : Ex) → TypeKept g e (frequency_made g x e)
  frequency-typed x (node_ex false (word Fun.Freq) (more_exs (fun1 false Fun.ToMSet m) (more_exs a no_exs))) =
      go (both_sets (type_of m g) (type_of m g)) refl
    where
      go : (c : Bool) → both_sets (type_of m g) (type_of m g) ≡ c →
          TypeKept g (node_ex false (word Fun.Freq) (more_exs (fun1 false Fun.ToMSet m) (more_exs a no_exs)))
          (if c then Some (fun1 false Fun.ToInt (ex2 true Op2.Member a m)) else None)
      go true k = made-frequency (type_of m g) (type_of a g) k
      go false k = tt
  frequency-typed x _ = tt

  -- ---- each rule

  under : (c : Bool) (e : Ex) (r : Option Ex) → TypeKept g e r → TypeKept g e (if c then r else None)
  under true e r h = h
  under false e r h = tt

  each-typed : (s : Supply) (r : Rule) (e : Ex) → keeps_type r ≡ true → TypeTold g r e → TypeKept g e (rewrite s g r e)
  each-typed s over_nothing e k h = nothing g e
  each-typed s over_one e k h = one-item g e h
  each-typed s over_one_binding e k h = bare g e h
  each-typed s over_a_term e k h = term g s.one e
  each-typed s over_a_made_set e k h = loosely g e
  each-typed s over_a_condition e k h = alone g e
  each-typed s over_tuples e k h = splits g e
  each-typed s component_of_a_tuple e k h = component e
  each-typed s not_equal e k h = under (compares_compound g e) e (unequal e) (apart g e)
  each-typed s turned e k h = turns g e
  each-typed s strictly e k h = strict g s.one e
  each-typed s with_nothing e k h = nothing-typed s.one e
  each-typed s size e k h = sized-typed s.one e h
  each-typed s size_of_one_made_of_another e k h = size-made-typed s.one e
  each-typed s frequency_in_one_made_of_another e k h = frequency-typed s.one e
  each-typed s least_of_a_literal e k h = least-listed g e
  each-typed s list_of_a_term e k h = list-of-term g s.one e
  each-typed s results e k h = range-typed s.one e
  each-typed s choice e k h = shorter g e
  each-typed s _ e k h = cc

-- What they keep.
pub rules-keep-types : RulesKeepTypes
rules-keep-types s g r e f q k h = subst (λ o. TypeKept g e o) q (each-typed g s r e k h)
