-- Rules of comparisons, and of membership in what is made of functions, that keep values at their root.
use Rattle.std.proofs.Common.{◌≡◌, refl, ℕ, suc, Bool, true, false, ◌&&◌, List, [], ◌∷◌, Option, Some, None}
use Rattle.ess_semantics.specs.declared.words.Op2.{Op2}
use Rattle.ess_semantics.specs.declared.words.Fun.{Fun}
use Rattle.ess_semantics.specs.Values.{Text, Value, a_record, a_function}
use Rattle.ess_semantics.specs.Order.{same_texts}
use Rattle.ess_semantics.specs.Names.{Names}
use Rattle.ess_semantics.specs.Trees.{word, tuple_literal, Ex, name_ex, node_ex, ex2, fun1, no_exs, more_exs}
use Rattle.ess_semantics.specs.Types.{Ty, Tys, no_tys, more_tys, compound, compound2, is_bool}
use Rattle.ess_semantics.specs.Typing.{type_of}
use Rattle.ess_semantics.specs.Meaning.{Env}
use Rattle.ess_semantics.proofs.Tests.{and-left, and-right}
use Rattle.ess_rules_laws.specs.Rules.{Unused}
use Rattle.ess_rules_laws.specs.InclusionRules.{every, frequency as times, both_sets, both_msets, both_functions, included_often, equal_members, equal_often, equal_pairs}
use Rattle.ess_rules_laws.specs.ComponentRules.{component_of, equal_from, components, equal_where, equal_components, are_fields, equal_each, equal_where_fields, equal_fields}
use Rattle.ess_rules_laws.specs.FunctionMembershipRules.{some_component, pair_ex, an_argument, a_result, a_source, member_of_function, member_related}
use Rattle.ess_rules_laws.proofs.RuleAnswers.{behind}
use Rattle.ess_refine_laws.specs.AllRules.{equal_tuples, equal_records, equal_sets, equal_multisets, equal_functions}
use Rattle.ess_values_along_laws.specs.Valued.{Valued}
use Rattle.ess_values_along_laws.proofs.ValuesAlong.{values-along}
use Rattle.ess_rules_values_laws.proofs.ValuedAgreement.{valued-behind}
use Rattle.ess_values_terms_laws.specs.TermsKeepValues.{is_compound, are_compound, ComparesTerms}
use Rattle.ess_values_terms_laws.proofs.ValuedForms.{there, by-compound, node-valued, word-valued, frequency-valued, component-valued, field-valued}
use Rattle.ess_values_terms_laws.proofs.ValuedLists.{name-valued, pair-there, every-valued, some-valued, when, AnswerValued}

module _ (env : Env) where
  abbrev A : Bool → Ex → Option Ex → Type 0
  A w e r = AnswerValued w e r env

  -- ---- two compared terms

  two : (a b : Ex) → are_compound (more_exs a (more_exs b no_exs)) ≡ true → Valued true a env → Valued true b env →
      Valued false a env × Valued false b env
  two a b c h k = (
    by-compound a env true (and-left (is_compound a) (is_compound b && true) c) h,
    by-compound b env true (and-left (is_compound b) true (and-right (is_compound a) (is_compound b && true) c)) k,
  )

  -- Components from the k-th on.
  equal-from : (k : ℕ) (ts us : Tys) (a b : Ex) (w : Bool) → Valued false a env → Valued false b env →
      Valued w (equal_from k ts us a b) env
  equal-from k no_tys no_tys a b w h l = tt
  equal-from k no_tys (more_tys u us) a b w h l = tt
  equal-from k (more_tys t ts) no_tys a b w h l = tt
  equal-from k (more_tys t ts) (more_tys u us) a b w h l = (
    tt,
    (
      (tt, (component-valued (is_bool (Some t)) true k a env h, (component-valued (is_bool (Some u)) true k b env l, tt))),
      λ q. (equal-from (suc k) ts us a b false h l, tt),
    ),
  )

  -- Tuples by their components.
  pub tuples : (w : Bool) (g : Names Ty) (x : Text) (e : Ex) → ComparesTerms equal_tuples e → Valued w e env →
      A w e (equal_components g x e)
  tuples w g x (ex2 true Op2.Eq a b) c h = go (components (type_of a g)) (components (type_of b g))
    where
      go : (o p : Option Tys) → A w (ex2 true Op2.Eq a b) (equal_where o p a b)
      go None p = tt
      go (Some ts) None = tt
      go (Some ts) (Some us) = λ q. let t = two a b c h.1.0 h.1.1.0 in equal-from 1 ts us a b w t.0 t.1
  tuples w g x _ c h = tt

  equal-each : (fs : List Text) (ts us : Tys) (a b : Ex) (w : Bool) → Valued false a env → Valued false b env →
      Valued w (equal_each fs ts us a b) env
  equal-each [] ts us a b w h l = tt
  equal-each (f ∷ fs) no_tys us a b w h l = tt
  equal-each (f ∷ fs) (more_tys t ts) no_tys a b w h l = tt
  equal-each (f ∷ fs) (more_tys t ts) (more_tys u us) a b w h l = (
    tt,
    (
      (tt, (field-valued (is_bool (Some t)) true f a env h, (field-valued (is_bool (Some u)) true f b env l, tt))),
      λ q. (equal-each fs ts us a b false h l, tt),
    ),
  )

  -- Records by their fields.
  pub records : (w : Bool) (g : Names Ty) (x : Text) (e : Ex) → ComparesTerms equal_records e → Valued w e env →
      A w e (equal_fields g x e)
  records w g x (ex2 true Op2.Eq a b) c h = go (type_of a g) (type_of b g)
    where
      go : (o p : Option Ty) → A w (ex2 true Op2.Eq a b) (equal_where_fields o p a b)
      go (Some (compound (a_record fs) ts)) (Some (compound (a_record gs) us)) =
          when w (same_texts fs gs && are_fields fs ts us) (ex2 true Op2.Eq a b) (equal_each fs ts us a b) env
          (λ q. let t = two a b c h.1.0 h.1.1.0 in equal-each fs ts us a b w t.0 t.1)
      go _ _ = tt
  records w g x _ c h = tt

  -- ---- containers by their members

  -- Each member of the first is one of the second.
  in-valued : (w : Bool) (x : Text) (a b : Ex) → Unused x b → Valued false a env → Valued false b env →
      Valued w (every x a (ex2 true Op2.Member (name_ex x) b)) env
  in-valued w x a b n h k = every-valued w x a (ex2 true Op2.Member (name_ex x) b) env h
      (λ v. (tt, (name-valued x v env false, (valued-behind x v b env false n k, tt))))

  -- Sets by their members.
  pub same-members : (w : Bool) (g : Names Ty) (x : Text) (e : Ex) → Unused x e → ComparesTerms equal_sets e → Valued w e env →
      A w e (equal_members g x e)
  same-members w g x (ex2 true Op2.Eq a b) n c h =
      when w (both_sets (type_of a g) (type_of b g)) (ex2 true Op2.Eq a b) _ env
      (λ q. let t = two a b c h.1.0 h.1.1.0 in
      (tt, (in-valued false x a b n.1.0 t.0 t.1, λ y. (in-valued false x b a n.0 t.1 t.0, tt))))
  same-members w g x _ n c h = tt

  -- How often a new name is in a container.
  pub often : (x : Text) (a : Ex) → Unused x a → Valued false a env → (w : Bool) → (v : Value) →
      Valued w (times a (name_ex x)) (behind x v env)
  often x a n h w v =
      frequency-valued w a (name_ex x) (behind x v env) (valued-behind x v a env false n h) (name-valued x v env false)

  -- Multisets by how often each member is there.
  pub as-often : (w : Bool) (g : Names Ty) (x : Text) (e : Ex) → Unused x e → ComparesTerms equal_multisets e → Valued w e env →
      A w e (equal_often g x e)
  as-often w g x (ex2 true Op2.Eq a b) n c h =
      when w (both_msets (type_of a g) (type_of b g)) (ex2 true Op2.Eq a b) _ env
      (λ q. let t = two a b c h.1.0 h.1.1.0 in (
        tt,
        (
          every-valued false x (fun1 false Fun.ToSet a) (ex2 true Op2.Eq (times a (name_ex x)) (times b (name_ex x))) env
              (word-valued false Fun.ToSet a env (λ v. refl) t.0)
              (λ v. (tt, (often x a n.0 t.0 true v, (often x b n.1.0 t.1 true v, tt)))),
          λ y. (in-valued false x b a n.0 t.1 t.0, tt),
        ),
      ))
  as-often w g x _ n c h = tt

  related : (f : Ex) → Valued false f env → Valued false (fun1 false Fun.ToRelation f) env
  related f h = word-valued false Fun.ToRelation f env (λ v. refl) h

  -- Functions by their pairs.
  pub same-pairs : (w : Bool) (g : Names Ty) (x : Text) (e : Ex) → Unused x e → ComparesTerms equal_functions e → Valued w e env →
      A w e (equal_pairs g x e)
  same-pairs w g x (ex2 true Op2.Eq a b) n c h =
      when w (both_functions (type_of a g) (type_of b g)) (ex2 true Op2.Eq a b) _ env
      (λ q. let t = two a b c h.1.0 h.1.1.0 in (
        tt,
        (
          in-valued false x a (fun1 false Fun.ToRelation b) n.1 t.0 (related b t.1),
          λ y. (in-valued false x b (fun1 false Fun.ToRelation a) (n.0, tt) t.1 (related a t.0), tt),
        ),
      ))
  same-pairs w g x _ n c h = tt

  -- Inclusion of multisets.
  pub no-less-often : (w : Bool) (x : Text) (e : Ex) → Unused x e → Valued w e env → A w e (included_often x e)
  no-less-often w x (ex2 true Op2.SubsetEq a b) n h =
      λ q. every-valued w x a (ex2 true Op2.Le (times a (name_ex x)) (times b (name_ex x))) env h.1.0
      (λ v. (tt, (often x a n.0 h.1.0 true v, (often x b n.1.0 h.1.1.0 true v, tt))))
  no-less-often w x _ n h = tt

  -- ---- membership in what is made of functions

  some-component : (w : Bool) (y : Text) (k : ℕ) (t : Ty) (a f : Ex) → Unused y a → Valued false a env → Valued false f env →
      Valued w (some_component y k t a f) env
  some-component w y k t a f n h l = some-valued w y f (ex2 true Op2.Eq (component_of t k (name_ex y)) a) env l
      (λ v. (
        tt,
        (
          component-valued (is_bool (Some t)) true k (name_ex y) (behind y v env) (name-valued y v env false),
          (values-along.in_places true a (behind y v env) (valued-behind y v a env false n h), tt),
        ),
      ))

  -- Membership in the arguments, the results or the sources of a function.
  pub of-function : (w : Bool) (g : Names Ty) (y : Text) (e : Ex) → Unused y e → Valued w e env → A w e (member_of_function g y e)
  of-function w g y (ex2 true Op2.Member a (fun1 false Fun.Defined f)) n h = go (type_of f g)
    where
      go : (o : Option Ty) → A w (ex2 true Op2.Member a (fun1 false Fun.Defined f)) (an_argument o y a f)
      go (Some (compound2 a_function t u)) = λ q. some-component w y 1 t a f n.0 h.1.0 h.1.1.0.1.0
      go _ = tt
  of-function w g y (ex2 true Op2.Member a (fun1 false Fun.Range f)) n h = go (type_of f g)
    where
      go : (o : Option Ty) → A w (ex2 true Op2.Member a (fun1 false Fun.Range f)) (a_result o y a f)
      go (Some (compound2 a_function t u)) = λ q. some-component w y 2 u a f n.0 h.1.0 h.1.1.0.1.0
      go _ = tt
  of-function w g y (ex2 true Op2.Member a (node_ex false (word Fun.PreImage) (more_exs f (more_exs b no_exs)))) n h = go (type_of f g)
    where
      pair : Valued false (pair_ex a b) env
      pair = node-valued false false tuple_literal (more_exs a (more_exs b no_exs)) env refl
          (pair-there a b env (there a env h.1.0) (there b env h.1.1.0.1.1.0)) (h.1.0, (h.1.1.0.1.1.0, tt))

      go : (o : Option Ty) →
          A w (ex2 true Op2.Member a (node_ex false (word Fun.PreImage) (more_exs f (more_exs b no_exs)))) (a_source o a f b)
      go (Some (compound2 a_function t u)) = λ q. (tt, (pair, (related f h.1.1.0.1.0, tt)))
      go _ = tt
  of-function w g y _ n h = tt

  -- Membership in the pairs of a function.
  pub in-pairs : (w : Bool) (y : Text) (e : Ex) → Unused y e → Valued w e env → A w e (member_related y e)
  in-pairs w y (ex2 true Op2.Member p (fun1 false Fun.ToRelation f)) n h =
      λ q. some-valued w y f (ex2 true Op2.Eq (name_ex y) p) env h.1.1.0.1.0
      (λ v. (
        tt,
        (
          name-valued y v env true,
          (values-along.in_places true p (behind y v env) (valued-behind y v p env false n.0 h.1.0), tt),
        ),
      ))
  in-pairs w y _ n h = tt
