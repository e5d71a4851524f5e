-- Rules of sizes and lists that keep values at their root, and all of these rules.
use Rattle.std.proofs.Common.{◌≡◌, refl, subst, Bool, true, false, ◌&&◌, [], ◌∷◌, pos, Option, Some}
use Rattle.std.specs.Prelude.{IsTrue, is_some}
use Rattle.ess_semantics.specs.declared.words.Op1.{Op1}
use Rattle.ess_semantics.specs.declared.words.Op2.{Op2}
use Rattle.ess_semantics.specs.declared.words.Fun.{Fun}
use Rattle.ess_semantics.specs.Values.{Text, Value, number, a_function}
use Rattle.ess_semantics.specs.Names.{Names}
use Rattle.ess_semantics.specs.Trees.{Op, binary, word, set_literal, mset_literal, matrix_literal, name_pat, Ex, Exs, number_ex, name_ex, node_ex, comp_ex, ex1, ex2, fun1, no_exs, more_exs, no_gens, from, cond}
use Rattle.ess_semantics.specs.Types.{Ty, compound2, is_bool}
use Rattle.ess_semantics.specs.Typing.{type_of}
use Rattle.ess_semantics.specs.Meaning.{Env, meaning}
use Rattle.ess_semantics.proofs.Tests.{and-left}
use Rattle.ess_guard_laws.specs.Supplied.{Unless}
use Rattle.ess_rules_laws.specs.Rules.{Unused}
use Rattle.ess_rules_laws.specs.InclusionRules.{frequency as times, both_sets}
use Rattle.ess_rules_laws.specs.ComponentRules.{component_of}
use Rattle.ess_rules_laws.specs.SizeRules.{is_counted, size_term, frequency_term, together_term}
use Rattle.ess_rules_laws.specs.ShortSizeRules.{is_function, is_partition, size_made, frequency_made, ones_where, frequency_listed}
use Rattle.ess_rules_laws.specs.LiteralRules.{extreme_listed}
use Rattle.ess_rules_laws.specs.ListRules.{different_term}
use Rattle.ess_rules_laws.specs.ContainerListings.{of_function, range_as_set}
use Rattle.ess_rules_laws.proofs.RuleAnswers.{behind}
use Rattle.ess_refine_laws.specs.AllRules.{Rule, equal_tuples, equal_records, equal_sets, equal_multisets, equal_functions, included_multisets, in_what_a_function_has, in_its_pairs, size_of_one_made_of_another, size, frequency_in_one_made_of_another, frequency_in_a_literal, frequency, together, least_of_a_literal, all_different, results, Supply, tells_scalars_apart, rewrite}
use Rattle.ess_values_along_laws.specs.Valued.{Valued, AllValued}
use Rattle.ess_values_along_laws.proofs.ValuesAlong.{values-along}
use Rattle.ess_rules_values_laws.proofs.ValuedAgreement.{valued-behind}
use Rattle.ess_values_terms_laws.specs.TermsKeepValues.{is_of_terms, is_compound, ComparesTerms, TermsKeepValues}
use Rattle.ess_values_terms_laws.proofs.ValuedForms.{and-no, said, there, by-compound, node-valued, word-valued, size-valued, component-valued}
use Rattle.ess_values_terms_laws.proofs.ValuedLists.{list-valued, name-valued, each-in-there, comp-there, where-there, comp-valued, every-valued, some-valued, when, unless, answered, AnswerValued}
use Rattle.ess_values_terms_laws.proofs.ComparedTerms.{tuples, records, same-members, as-often, same-pairs, no-less-often, of-function, in-pairs, often}

module _ (env : Env) where
  abbrev A : Bool → Ex → Option Ex → Type 0
  A w e r = AnswerValued w e r env

  -- ---- sizes and frequencies

  and-thrice : (w : Bool) → (w && true) && false ≡ false
  and-thrice w = and-no (w && true)

  and-twice : (w : Bool) → (w && false) && false ≡ false
  and-twice w = and-no (w && false)

  -- A number for each member.
  ones-valued : (w : Bool) (x : Text) (s : Ex) → Valued false s env →
      Valued w (fun1 false Fun.Sum (comp_ex (number_ex (pos 1)) (from (name_pat x) s no_gens))) env
  ones-valued w x s h = word-valued w Fun.Sum (comp_ex (number_ex (pos 1)) (from (name_pat x) s no_gens)) env (λ v. refl)
      (comp-valued false x s (number_ex (pos 1)) env h (λ v. tt))

  counted : (w : Bool) (g : Names Ty) (x : Text) (e : Ex) → ComparesTerms size e → Valued w e env → A w e (size_term g x e)
  counted w g x (ex1 false Op1.Bar s) c h = when w (is_counted (type_of s g)) (ex1 false Op1.Bar s) _ env
      (λ q. ones-valued w x s (by-compound s env (w && true) (and-left (is_compound s) true c) h.1.0))
  counted w g x _ c h = tt

  -- The operand of a word that is counted.
  within : (w : Bool) (f : Ex) → Valued ((w && true) && false) f env → Valued false f env
  within w f h = subst (λ z. Valued z f env) (and-thrice w) h

  counted-made : (w : Bool) (g : Names Ty) (x : Text) (e : Ex) → Valued w e env → A w e (size_made g x e)
  counted-made w g x (ex1 false Op1.Bar (fun1 false Fun.Defined f)) h =
      when w (is_function (type_of f g)) (ex1 false Op1.Bar (fun1 false Fun.Defined f)) _ env
      (λ q. size-valued w f env (within w f h.1.0.1.0))
  counted-made w g x (ex1 false Op1.Bar (fun1 false Fun.ToRelation f)) h =
      when w (is_function (type_of f g)) (ex1 false Op1.Bar (fun1 false Fun.ToRelation f)) _ env
      (λ q. size-valued w f env (within w f h.1.0.1.0))
  counted-made w g x (ex1 false Op1.Bar (fun1 false Fun.ToMSet s)) h =
      when w (is_counted (type_of s g)) (ex1 false Op1.Bar (fun1 false Fun.ToMSet s)) _ env
      (λ q. size-valued w s env (within w s h.1.0.1.0))
  counted-made w g x (ex1 false Op1.Bar (fun1 false Fun.ToSet s)) h =
      when w (both_sets (type_of s g) (type_of s g)) (ex1 false Op1.Bar (fun1 false Fun.ToSet s)) _ env
      (λ q. size-valued w s env (within w s h.1.0.1.0))
  counted-made w g x (ex1 false Op1.Bar (fun1 false Fun.Parts p)) h =
      when w (is_partition (type_of p g)) (ex1 false Op1.Bar (fun1 false Fun.Parts p)) _ env
      (λ q. ones-valued w x p (within w p h.1.0.1.0))
  counted-made w g x _ h = tt

  -- A choice has a value where the condition's parts have.
  chosen-valued : (w : Bool) (op : Op) (es : Exs) → Valued false (node_ex true op es) env →
      Valued w (fun1 false Fun.ToInt (node_ex true op es)) env
  chosen-valued w op es h = word-valued w Fun.ToInt (node_ex true op es) env (λ v. refl) h

  often-made : (w : Bool) (g : Names Ty) (x : Text) (e : Ex) → Valued w e env → A w e (frequency_made g x e)
  often-made w g x (node_ex false (word Fun.Freq) (more_exs (fun1 false Fun.ToMSet s) (more_exs a no_exs))) h =
      when w (both_sets (type_of s g) (type_of s g))
      (node_ex false (word Fun.Freq) (more_exs (fun1 false Fun.ToMSet s) (more_exs a no_exs))) _ env
      (λ q. chosen-valued w (binary Op2.Member) (more_exs a (more_exs s no_exs)) (
        tt,
        (
          subst (λ z. Valued z a env) (and-no w) h.1.1.0,
          (subst (λ z. Valued z s env) (and-twice w) h.1.0.1.0, tt),
        ),
      ))
  often-made w g x _ h = tt

  ones-where : (a : Ex) (es : Exs) → Valued false a env → AllValued false false es env → AllValued false false (ones_where a es) env
  ones-where a no_exs h k = tt
  ones-where a (more_exs b es) h k = (
    chosen-valued false (binary Op2.Eq) (more_exs b (more_exs a no_exs))
        (tt, (values-along.in_places true b env k.0, (values-along.in_places true a env h, tt))),
    ones-where a es h k.1,
  )

  often-listed : (w : Bool) (e : Ex) → Valued w e env → A w e (frequency_listed e)
  often-listed w (node_ex false (word Fun.Freq) (more_exs (node_ex false mset_literal es) (more_exs a no_exs))) h =
      λ q. word-valued w Fun.Sum (node_ex false matrix_literal (ones_where a es)) env (λ v. refl)
      (list-valued false (ones_where a es) env (ones-where a es (subst (λ z. Valued z a env) (and-no w) h.1.1.0)
      (subst (λ z. AllValued false z es env) (and-twice w) h.1.0.1)))
  often-listed w _ h = tt

  how-often : (w : Bool) (x : Text) (e : Ex) → Unused x e → Valued w e env → A w e (frequency_term x e)
  how-often w x (node_ex false (word Fun.Freq) (more_exs m (more_exs a no_exs))) n h =
      λ q. let l = subst (λ z. Valued z m env) (and-no w) h.1.0 in
      word-valued w Fun.Sum (comp_ex (number_ex (pos 1)) (from (name_pat x) m (cond (ex2 true Op2.Eq (name_ex x) a) no_gens))) env
      (λ v. refl) (
        comp-there x m (number_ex (pos 1)) (cond (ex2 true Op2.Eq (name_ex x) a) no_gens) env (there m env l)
            (λ v. where-there (meaning (ex2 true Op2.Eq (name_ex x) a) (behind x v env)) (Some (number (pos 1) ∷ [])) refl),
        (
          l,
          each-in-there (meaning m env) _ (λ v. (
            (
              tt,
              (
                name-valued x v env true,
                (
                  values-along.in_places true a (behind x v env)
                      (valued-behind x v a env false n.1.0 (subst (λ z. Valued z a env) (and-no w) h.1.1.0)),
                  tt,
                ),
              ),
            ),
            λ t. tt,
          )),
        ),
      )
  how-often w x _ n h = tt

  lie-together : (w : Bool) (x : Text) (e : Ex) → Unused x e → Valued w e env → A w e (together_term x e)
  lie-together w x (node_ex true (word Fun.Together) (more_exs s (more_exs p no_exs))) n h =
      λ q. some-valued w x (fun1 false Fun.Parts p) (ex2 true Op2.SubsetEq s (name_ex x)) env
      (word-valued false Fun.Parts p env (λ v. refl) h.1.1.0)
      (λ v. (tt, (valued-behind x v s env false n.0 h.1.0, (name-valued x v env false, tt))))
  lie-together w x _ n h = tt

  -- ---- lists

  -- A Boolean word on a list of the items.
  truth-list : (w : Bool) (f : Fun) (es : Exs) → AllValued false false es env → Valued w (fun1 true f (node_ex false matrix_literal es)) env
  truth-list w f es v = node-valued true w (word f) (more_exs (node_ex false matrix_literal es) no_exs) env refl refl
      (list-valued false es env v, tt)

  -- A word on a list of the items, that has the value of one that has one.
  number-list : (w : Bool) (f : Fun) (es : Exs) (o : Option Value) → Unless (w && false) (IsTrue (is_some o)) →
      o ≡ meaning (fun1 false f (node_ex false matrix_literal es)) env → AllValued false ((w && false) && false) es env →
      Valued w (fun1 false f (node_ex false matrix_literal es)) env
  number-list w f es o h q v = node-valued false w (word f) (more_exs (node_ex false matrix_literal es) no_exs) env refl
      (subst (λ z. IsTrue (is_some z)) q (said (w && false) (IsTrue (is_some o)) (and-no w) h))
      (list-valued false es env (subst (λ z. AllValued false z es env) (and-twice w) v), tt)

  extreme : (w : Bool) (e : Ex) → Valued w e env → A w e (extreme_listed e)
  extreme w (fun1 true Fun.Min (node_ex false set_literal es)) h = λ q. truth-list w Fun.Min es h.1.0.1
  extreme w (fun1 true Fun.Max (node_ex false set_literal es)) h = λ q. truth-list w Fun.Max es h.1.0.1
  extreme w (fun1 true Fun.Min (node_ex false mset_literal es)) h = λ q. truth-list w Fun.Min es h.1.0.1
  extreme w (fun1 true Fun.Max (node_ex false mset_literal es)) h = λ q. truth-list w Fun.Max es h.1.0.1
  extreme w (fun1 false Fun.Min (node_ex false set_literal es)) h = λ q. number-list w Fun.Min es _ h.0 q h.1.0.1
  extreme w (fun1 false Fun.Max (node_ex false set_literal es)) h = λ q. number-list w Fun.Max es _ h.0 q h.1.0.1
  extreme w (fun1 false Fun.Min (node_ex false mset_literal es)) h = λ q. number-list w Fun.Min es _ h.0 q h.1.0.1
  extreme w (fun1 false Fun.Max (node_ex false mset_literal es)) h = λ q. number-list w Fun.Max es _ h.0 q h.1.0.1
  extreme w _ h = tt

  differ : (w : Bool) (x : Text) (e : Ex) → Unused x e → Valued w e env → A w e (different_term x e)
  differ w x (fun1 true Fun.AllDiff l) n h =
      λ q. every-valued w x l (ex2 true Op2.Eq (times (fun1 false Fun.ToMSet l) (name_ex x)) (number_ex (pos 1))) env h.1.0
      (λ v. (tt, (often env x (fun1 false Fun.ToMSet l) n (word-valued false Fun.ToMSet l env (λ u. refl) h.1.0) true v, (tt, tt))))
  differ w x _ n h = tt

  result-set : (w : Bool) (g : Names Ty) (x : Text) (e : Ex) → Valued w e env → A w e (range_as_set g x e)
  result-set w g x (fun1 false Fun.Range f) h = go (type_of f g)
    where
      go : (o : Option Ty) → A w (fun1 false Fun.Range f)
          (of_function o (λ t u. fun1 false Fun.ToSet (comp_ex (component_of u 2 (name_ex x)) (from (name_pat x) f no_gens))))
      go (Some (compound2 a_function t u)) =
          λ q. word-valued w Fun.ToSet (comp_ex (component_of u 2 (name_ex x)) (from (name_pat x) f no_gens)) env (λ v. refl)
          (comp-valued false x f (component_of u 2 (name_ex x)) env (subst (λ z. Valued z f env) (and-no w) h.1.0)
          (λ v. component-valued (is_bool (Some u)) false 2 (name_ex x) (behind x v env) (name-valued x v env false)))
      go _ = tt
  result-set w g x _ h = tt

  -- ---- each rule

  -- What each of these rules answers keeps values.
  each : (s : Supply) (g : Names Ty) (r : Rule) (e : Ex) → is_of_terms r ≡ true → Unused s.one e → ComparesTerms r e → (w : Bool) →
      Valued w e env → A w e (rewrite s g r e)
  each s g equal_tuples e i n c w h = tuples env w g s.one e c h
  each s g equal_records e i n c w h = records env w g s.one e c h
  each s g equal_sets e i n c w h = same-members env w g s.one e n c h
  each s g equal_multisets e i n c w h = as-often env w g s.one e n c h
  each s g equal_functions e i n c w h = same-pairs env w g s.one e n c h
  each s g included_multisets e i n c w h = no-less-often env w s.one e n h
  each s g in_what_a_function_has e i n c w h = of-function env w g s.one e n h
  each s g in_its_pairs e i n c w h = in-pairs env w s.one e n h
  each s g size_of_one_made_of_another e i n c w h = counted-made w g s.one e h
  each s g size e i n c w h = counted w g s.one e c h
  each s g frequency_in_one_made_of_another e i n c w h = often-made w g s.one e h
  each s g frequency_in_a_literal e i n c w h = often-listed w e h
  each s g frequency e i n c w h = how-often w s.one e n h
  each s g together e i n c w h = lie-together w s.one e n h
  each s g least_of_a_literal e i n c w h = extreme w e h
  each s g all_different e i n c w h = unless w (tells_scalars_apart g e) e (different_term s.one e) env (differ w s.one e n h)
  each s g results e i n c w h = result-set w g s.one e h
  each s g r e i n c w h = cc

-- What is proved of these rules and values.
pub terms-keep-values : TermsKeepValues
terms-keep-values = λ s g r e f q i n c env m w h. answered w e f (rewrite s g r e) env q (each env s g r e i n c w h) m
