-- What rules make of comparisons, sizes and generators has the type that they rewrite.
use Rattle.std.proofs.Common.{◌≡◌, refl, ap, ◌∙◌, ℕ, zero, suc, Bool, true, false, ◌&&◌, ◌||◌, if◌then◌else◌, List, [], ◌∷◌, pos, Option, Some, None, not, option_map}
use Rattle.ess_semantics.specs.declared.words.Op2.{Op2}
use Rattle.ess_semantics.specs.declared.words.Fun.{Fun}
use Rattle.ess_semantics.specs.Lists.{and_then}
use Rattle.ess_semantics.specs.Values.{Text, a_matrix, a_tuple}
use Rattle.ess_semantics.specs.Names.{Names}
use Rattle.ess_semantics.specs.Trees.{word, mset_literal, Pats, more_pats, no_pats, tuple_pat, Ex, Exs, node_ex, comp_ex, ex2, fun1, no_exs, more_exs, Gens, over, Doms, no_doms, more_doms, tuple_dom, binary, set_literal, number_ex}
use Rattle.ess_semantics.specs.Types.{Ty, compound, compound2}
use Rattle.ess_semantics.specs.Typing.{type_of, part_ty}
use Rattle.ess_rules_laws.specs.FoldRules.{is_laid_open}
use Rattle.ess_rules_laws.specs.SplitRules.{as_many, each_over, split}
use Rattle.ess_rules_laws.specs.LiteralRules.{nth, extreme_listed}
use Rattle.ess_rules_laws.specs.InclusionRules.{both_sets, both_msets, unequal, included_turned, included_strictly}
use Rattle.ess_semantics.specs.declared.words.Op1.{Op1}
use Rattle.ess_rules_laws.specs.ListRules.{is_of_list, list_term}
use Rattle.ess_rules_laws.specs.ChoiceRules.{choice_shorter}
use Rattle.ess_refine_laws.specs.ExtremeRules.{is_extreme}
use Rattle.std.proofs.Common.{sym}
use Rattle.ess_semantics.specs.Lists.{all_some}
use Rattle.ess_semantics.specs.Values.{a_set, a_mset, a_relation}
use Rattle.ess_semantics.specs.Trees.{unary}
use Rattle.ess_semantics.specs.Types.{any_ty, bool_ty, int_ty, named_ty, compound1, tys_of, join, join_all, type_of_dom, bind_types}
use Rattle.ess_semantics.specs.OperatorTypes.{member_ty, included, type_of_list}
use Rattle.ess_semantics.specs.Typing.{a_number, part_ty, component_ty, types_of, types_under}
use Rattle.ess_rules_laws.specs.ListRules.{members_list}
use Rattle.ess_semantics.specs.Types.{types_of_doms, bind_all_types}
use Rattle.ess_refine_laws.proofs.TypeJoins.{join-swap}
use Rattle.ess_refine_laws.proofs.TypesOfFolds.{one_type, two_type, list_of_type, Stays, TypeKept, when, members-typed}

-- ---- comparisons

module _ (g : Names Ty) where
  not-equal : (o p : Option Ty) → Stays (two_type (binary Op2.Ne) o p) (one_type (unary Op1.Not) (two_type (binary Op2.Eq) o p))
  not-equal None p t q = cc
  not-equal (Some u) None t q = cc
  not-equal (Some u) (Some v) t q = go (join u v) q
    where
      go : (j : Option Ty) → option_map (λ w. bool_ty) j ≡ Some t → one_type (unary Op1.Not) (option_map (λ w. bool_ty) j) ≡ Some t
      go None q = cc
      go (Some w) q = q

  pub apart : (e : Ex) → TypeKept g e (unequal e)
  apart (ex2 true Op2.Ne a b) = not-equal (type_of a g) (type_of b g)
  apart _ = tt

  turned-type : (o p : Option Ty) → two_type (binary Op2.SubsetEq) o p ≡ two_type (binary Op2.SubsetEq) p o
  turned-type None None = refl
  turned-type None (Some v) = refl
  turned-type (Some u) None = refl
  turned-type (Some u) (Some v) = ap (λ j. and_then j included) (join-swap u v)

  pub turns : (e : Ex) → TypeKept g e (included_turned e)
  turns (ex2 true Op2.SupsetEq a b) = λ t q. turned-type (type_of b g) (type_of a g) ∙ q
  turns (ex2 true Op2.Supset a b) = λ t q. turned-type (type_of b g) (type_of a g) ∙ q
  turns _ = tt

  -- An inclusion is a truth value.
  includes : (o p : Option Ty) (t : Ty) → two_type (binary Op2.SubsetEq) o p ≡ Some t → t ≡ bool_ty
  includes None p t q = cc
  includes (Some u) None t q = cc
  includes (Some u) (Some v) t q = go (join u v) q
    where
      of : (w : Ty) → included w ≡ Some t → t ≡ bool_ty
      of any_ty q = cc
      of bool_ty q = cc
      of int_ty q = cc
      of (named_ty a) q = cc
      of (compound a_set ts) q = cc
      of (compound a_mset ts) q = cc
      of (compound a_relation ts) q = cc
      of (compound _ ts) q = cc

      go : (j : Option Ty) → and_then j included ≡ Some t → t ≡ bool_ty
      go None q = cc
      go (Some w) q = of w q

  pub strict : (x : Text) (e : Ex) → TypeKept g e (included_strictly g x e)
  strict x (ex2 true Op2.Subset a b) =
      when g (both_sets (type_of a g) (type_of b g) || both_msets (type_of a g) (type_of b g)) (ex2 true Op2.Subset a b) _ (λ t q.
      let i : t ≡ bool_ty = includes (type_of a g) (type_of b g) t q in
      let l : two_type (binary Op2.SubsetEq) (type_of a g) (type_of b g) ≡ Some bool_ty = q ∙ ap Some i in
      ap (λ z. two_type (binary Op2.And) z (one_type (unary Op1.Not) (two_type (binary Op2.SubsetEq) (type_of b g) (type_of a g)))) l
      ∙ ap (λ z. two_type (binary Op2.And) (Some bool_ty) (one_type (unary Op1.Not) z)) (turned-type (type_of b g) (type_of a g) ∙ l)
      ∙ ap Some (sym i))
  strict x _ = tt

  -- ---- generators

  each-types : (ps : Pats) (ds : Doms) (hs : Gens) (h : Names Ty) → as_many ps ds ≡ true →
      types_under (each_over ps ds hs) h ≡ types_under hs (bind_all_types ps (types_of_doms ds) h)
  each-types no_pats no_doms hs h k = refl
  each-types (more_pats p ps) (more_doms d ds) hs h k = each-types ps ds hs (bind_types p (type_of_dom d) h) k
  each-types no_pats (more_doms d ds) hs h k = cc
  each-types (more_pats p ps) no_doms hs h k = cc

  pub splits : (e : Ex) → TypeKept g e (split e)
  splits (comp_ex e (over (tuple_pat ps) (tuple_dom ds) hs)) = go (as_many ps ds) refl
    where
      go : (c : Bool) → as_many ps ds ≡ c → TypeKept g (comp_ex e (over (tuple_pat ps) (tuple_dom ds) hs))
          (if c then Some (comp_ex e (each_over ps ds hs)) else None)
      go true k = λ t q. ap (λ o. and_then o (λ h. list_of_type (type_of e h))) (each-types ps ds hs g k) ∙ q
      go false k = tt
  splits _ = tt

  -- ---- lists and numbers

  pub shorter : (e : Ex) → TypeKept g e (choice_shorter e)
  shorter (ex2 false Op2.Times (fun1 false Fun.ToInt c) (fun1 false Fun.ToInt d)) = go (type_of c g) (type_of d g)
    where
      go : (o p : Option Ty) → Stays (two_type (binary Op2.Times) (one_type (word Fun.ToInt) o) (one_type (word Fun.ToInt) p))
          (one_type (word Fun.ToInt) (two_type (binary Op2.And) o p))
      go None p t q = cc
      go (Some u) None t q = none (one_type (word Fun.ToInt) (Some u)) q
        where
          none : (o : Option Ty) → two_type (binary Op2.Times) o None ≡ Some t → None ≡ Some t
          none None q = cc
          none (Some w) q = cc
      go (Some any_ty) (Some any_ty) t q = q
      go (Some any_ty) (Some bool_ty) t q = q
      go (Some bool_ty) (Some any_ty) t q = q
      go (Some bool_ty) (Some bool_ty) t q = q
      go (Some any_ty) (Some _) t q = cc
      go (Some bool_ty) (Some _) t q = cc
      go (Some _) (Some _) t q = cc
  shorter (ex2 false Op2.Times (fun1 false Fun.ToInt c) (number_ex (pos (suc zero)))) = go (type_of c g)
    where
      go : (o : Option Ty) → Stays (two_type (binary Op2.Times) (one_type (word Fun.ToInt) o) (Some int_ty)) (one_type (word Fun.ToInt) o)
      go (Some any_ty) t q = q
      go (Some bool_ty) t q = q
      go _ t q = cc
  shorter _ = tt

  listed-type : (f : Fun) → is_of_list f ≡ true → (o : Option Ty) →
      Stays (one_type (word f) o) (one_type (word f) (list_of_type (and_then o member_ty)))
  listed-type f k None t q = cc
  listed-type Fun.Min k (Some any_ty) t q = q
  listed-type Fun.Max k (Some any_ty) t q = q
  listed-type Fun.AllDiff k (Some any_ty) t q = q
  listed-type Fun.Min k (Some (compound1 a_set e)) t q = q
  listed-type Fun.Max k (Some (compound1 a_set e)) t q = q
  listed-type Fun.Min k (Some (compound1 a_mset e)) t q = q
  listed-type Fun.Max k (Some (compound1 a_mset e)) t q = q
  listed-type Fun.Min k (Some (compound2 a_matrix i e)) t q = q
  listed-type Fun.Max k (Some (compound2 a_matrix i e)) t q = q
  listed-type Fun.AllDiff k (Some (compound2 a_matrix i e)) t q = q
  listed-type Fun.Min k (Some _) t q = cc
  listed-type Fun.Max k (Some _) t q = cc
  listed-type Fun.AllDiff k (Some _) t q = cc
  listed-type _ k (Some u) t q = cc

  pub list-of-term : (x : Text) (e : Ex) → TypeKept g e (list_term x e)
  list-of-term x (fun1 b f s) = go (is_of_list f) refl (is_laid_open s)
    where
      go : (c : Bool) → is_of_list f ≡ c → (d : Bool) →
          TypeKept g (fun1 b f s) (if c && not d then Some (fun1 b f (members_list x s)) else None)
      go true k true = tt
      go true k false = λ t q. ap (λ o. one_type (word f) o) (members-typed g x s) ∙ listed-type f k (type_of s g) t q
      go false k d = tt
  list-of-term x _ = tt

  -- ---- literals

  -- The types of items as those of a list.
  picked-type : (f : Fun) → is_extreme f ≡ true → (o : Option (List Ty)) →
      Stays (one_type (word f) (and_then o (λ ts. option_map (compound1 a_set) (join_all ts)))) (one_type (word f)
      (and_then o type_of_list))
  picked-type f k None t q = cc
  picked-type Fun.Min k (Some []) t q = q
  picked-type Fun.Max k (Some []) t q = q
  picked-type Fun.Min k (Some (u ∷ us)) t q = go (join_all (u ∷ us)) q
    where
      go : (j : Option Ty) → one_type (word Fun.Min) (option_map (compound1 a_set) j) ≡ Some t →
          one_type (word Fun.Min) (option_map (compound2 a_matrix int_ty) j) ≡ Some t
      go None q = cc
      go (Some e) q = q
  picked-type Fun.Max k (Some (u ∷ us)) t q = go (join_all (u ∷ us)) q
    where
      go : (j : Option Ty) → one_type (word Fun.Max) (option_map (compound1 a_set) j) ≡ Some t →
          one_type (word Fun.Max) (option_map (compound2 a_matrix int_ty) j) ≡ Some t
      go None q = cc
      go (Some e) q = q
  picked-type _ k (Some us) t q = cc

  picked-of-mset : (f : Fun) → is_extreme f ≡ true → (o : Option (List Ty)) →
      Stays (one_type (word f) (and_then o (λ ts. option_map (compound1 a_mset) (join_all ts)))) (one_type (word f)
      (and_then o type_of_list))
  picked-of-mset f k None t q = cc
  picked-of-mset Fun.Min k (Some []) t q = q
  picked-of-mset Fun.Max k (Some []) t q = q
  picked-of-mset Fun.Min k (Some (u ∷ us)) t q = go (join_all (u ∷ us)) q
    where
      go : (j : Option Ty) → one_type (word Fun.Min) (option_map (compound1 a_mset) j) ≡ Some t →
          one_type (word Fun.Min) (option_map (compound2 a_matrix int_ty) j) ≡ Some t
      go None q = cc
      go (Some e) q = q
  picked-of-mset Fun.Max k (Some (u ∷ us)) t q = go (join_all (u ∷ us)) q
    where
      go : (j : Option Ty) → one_type (word Fun.Max) (option_map (compound1 a_mset) j) ≡ Some t →
          one_type (word Fun.Max) (option_map (compound2 a_matrix int_ty) j) ≡ Some t
      go None q = cc
      go (Some e) q = q
  picked-of-mset _ k (Some us) t q = cc

  pub least-listed : (e : Ex) → TypeKept g e (extreme_listed e)
  least-listed (fun1 b Fun.Min (node_ex false set_literal es)) = picked-type Fun.Min refl (all_some (types_of es g))
  least-listed (fun1 b Fun.Max (node_ex false set_literal es)) = picked-type Fun.Max refl (all_some (types_of es g))
  least-listed (fun1 b Fun.Min (node_ex false mset_literal es)) = picked-of-mset Fun.Min refl (all_some (types_of es g))
  least-listed (fun1 b Fun.Max (node_ex false mset_literal es)) = picked-of-mset Fun.Max refl (all_some (types_of es g))
  least-listed _ = tt

  pub nth-type : (es : Exs) (k : ℕ) (a : Ex) (t : Ty) (o : Option (List Ty)) → all_some (types_of es g) ≡ o → nth es k ≡ Some a →
      and_then (and_then o (λ ts. Some (compound a_tuple (tys_of ts)))) (λ u. and_then (part_ty u (a_number k))
      (λ v. Some v)) ≡ Some t →
      type_of a g ≡ Some t
  nth-type es k a t None p n q = cc
  nth-type es k a t (Some ts) p n q = go es ts k p n (some-then (component_ty (tys_of ts) k) q)
    where
      some-then : (o : Option Ty) → and_then o (λ v. Some v) ≡ Some t → o ≡ Some t
      some-then None q = cc
      some-then (Some v) q = q

      heads : (o : Option Ty) (p : Option (List Ty)) (u : Ty) (us : List Ty) →
          and_then o (λ x. option_map (λ xs. x ∷ xs) p) ≡ Some (u ∷ us) →
          (o ≡ Some u) × (p ≡ Some us)
      heads None p u us e = cc
      heads (Some x) None u us e = cc
      heads (Some x) (Some xs) u us e = let i : x ∷ xs ≡ u ∷ us = cc in (let j : x ≡ u = cc in ap Some j, let j : xs ≡ us = cc in ap Some j)

      empty : (o : Option Ty) (p : Option (List Ty)) → and_then o (λ x. option_map (λ xs. x ∷ xs) p) ≡ Some [] → ⊥
      empty None p e = cc
      empty (Some x) None e = cc
      empty (Some x) (Some xs) e = cc

      go : (es : Exs) (ts : List Ty) (k : ℕ) → all_some (types_of es g) ≡ Some ts → nth es k ≡ Some a →
          component_ty (tys_of ts) k ≡ Some t →
          type_of a g ≡ Some t
      go no_exs ts k p n c = cc
      go (more_exs e es) [] k p n c = absurd (empty (type_of e g) (all_some (types_of es g)) p)
      go (more_exs e es) (u ∷ us) zero p n c = cc
      go (more_exs e es) (u ∷ us) (suc zero) p n c =
          let i : e ≡ a = cc in ap (λ z. type_of z g) (sym i) ∙ (heads (type_of e g) (all_some (types_of es g)) u us p).0 ∙ c
      go (more_exs e es) (u ∷ us) (suc (suc k)) p n c = go es us (suc k) (heads (type_of e g) (all_some (types_of es g)) u us p).1 n c
