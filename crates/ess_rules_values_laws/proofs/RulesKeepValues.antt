-- Rules on membership, on different items and on chosen numbers keep values, and so does each rule at its root.
use Rattle.std.proofs.Common.{◌≡◌, refl, subst, zero, suc, Bool, true, false, ◌&&◌, if◌then◌else◌, pos, Option, Some}
use Rattle.std.specs.Prelude.{IsTrue, is_some}
use Rattle.std.specs.List.{list_all}
use Rattle.ess_semantics.specs.declared.words.Op2.{Op2}
use Rattle.ess_semantics.specs.declared.words.Fun.{Fun}
use Rattle.ess_semantics.specs.Values.{Text}
use Rattle.ess_semantics.specs.Names.{Names}
use Rattle.ess_semantics.specs.Trees.{set_literal, mset_literal, relation_literal, matrix_literal, Ex, Exs, number_ex, name_ex, node_ex, ex2, fun1, no_exs, more_exs}
use Rattle.ess_semantics.specs.Types.{Ty}
use Rattle.ess_semantics.specs.Typing.{type_of}
use Rattle.ess_semantics.specs.Meaning.{Env, meaning, meanings}
use Rattle.ess_guard_laws.specs.Supplied.{Unless}
use Rattle.ess_rules_laws.specs.Rules.{Unused}
use Rattle.ess_rules_laws.specs.LiteralRules.{unequal_each, unequal_pairs, different_listed}
use Rattle.ess_rules_laws.specs.MembershipRules.{member_term, member_combined, is_asked, member_of, member_changed, equations, member_listed}
use Rattle.ess_rules_laws.specs.ChoiceRules.{choice_shorter}
use Rattle.ess_rules_laws.proofs.RuleAnswers.{behind}
use Rattle.ess_refine_laws.specs.AllRules.{Rule, over_nothing, over_one, over_one_binding, over_a_term, over_a_condition, component_of_a_tuple, field_of_a_record, not_equal, turned, strictly, equal_sets, equal_partitions, with_nothing, included_sets, in_two, in_one_made_of_another, in_a_literal, in_a_term, different_items, list_of_a_term, lists_on_both_sides, choice, Supply, compares_compound, tells_scalars_apart, rewrite}
use Rattle.ess_values_along_laws.specs.Valued.{Valued, AllValued}
use Rattle.ess_values_along_laws.proofs.ValuesAlong.{values-along}
use Rattle.ess_rules_values_laws.specs.RulesKeepValues.{is_shown, ComparesContainers, RulesKeepValues}
use Rattle.ess_rules_values_laws.proofs.ValuedAgreement.{valued-behind}
use Rattle.ess_rules_values_laws.proofs.ValuedForms.{and-no, and-yes, list-there, comp-valued, name-valued, Kept, under, unless}
use Rattle.ess_rules_values_laws.proofs.FoldsKeepValues.{nothing, one-item, bare, alone, over-term, list-of-term, both-lists, component, field}
use Rattle.ess_rules_values_laws.proofs.ComparisonsKeepValues.{apart, turns, strict, included, same-members, same-parts, no-items}

module _ (env : Env) where
  -- ---- membership

  combined : (w : Bool) (e : Ex) → Valued w e env → Kept env w e (member_combined e)
  combined w (ex2 true Op2.Member x (ex2 false Op2.Union a b)) h =
      λ q. (tt, ((tt, (h.1.0, (h.1.1.0.1.0, tt))), ((tt, (h.1.0, (h.1.1.0.1.1.0, tt))), tt)))
  combined w (ex2 true Op2.Member x (ex2 false Op2.Intersect a b)) h =
      λ q. (tt, ((tt, (h.1.0, (h.1.1.0.1.0, tt))), λ t. ((tt, (h.1.0, (h.1.1.0.1.1.0, tt))), tt)))
  combined w (ex2 true Op2.Member x (ex2 false Op2.Minus a b)) h =
      λ q. (tt, ((tt, (h.1.0, (h.1.1.0.1.0, tt))), λ t. ((tt, ((tt, (h.1.0, (h.1.1.0.1.1.0, tt))), tt)), tt)))
  combined w _ h = tt

  member : (w : Bool) (x : Text) (e : Ex) → Unused x e → Valued w e env → Kept env w e (member_term x e)
  member w x (ex2 true Op2.Member a s) n h = λ q. (
    tt,
    (
      comp-valued env x s (ex2 true Op2.Eq (name_ex x) a) false h.1.1.0
          (λ v. (
            tt,
            (
              name-valued env x v true,
              (
                values-along.in_places true a (behind x v env)
                    (valued-behind x v a env false n.0 h.1.0),
                tt,
              ),
            ),
          )),
      tt,
    ),
  )
  member w x _ n h = tt

  -- In a term that another one is made of.
  made-of : (w : Bool) (g : Names Ty) (x : Text) (a s e : Ex) → Unused x a → Valued false a env → Valued false s env →
      Kept env w e (member_of g x a s)
  made-of w g x a s e n h k = go (is_asked (type_of s g))
    where
      go : (c : Bool) → Kept env w e (if c then Some (ex2 true Op2.Member a s) else member_term x (ex2 true Op2.Member a s))
      go true = λ q. (tt, (h, (k, tt)))
      go false = λ q. (
        tt,
        (
          comp-valued env x s (ex2 true Op2.Eq (name_ex x) a) false k
              (λ v. (
                tt,
                (
                  name-valued env x v true,
                  (values-along.in_places true a (behind x v env) (valued-behind x v a env false n h), tt),
                ),
              )),
          tt,
        ),
      )

  changed : (w : Bool) (g : Names Ty) (x : Text) (e : Ex) → Unused x e → Valued w e env → Kept env w e (member_changed g x e)
  changed w g x (ex2 true Op2.Member a (fun1 false Fun.ToSet s)) n h =
      made-of w g x a s (ex2 true Op2.Member a (fun1 false Fun.ToSet s)) n.0 h.1.0 h.1.1.0.1.0
  changed w g x (ex2 true Op2.Member a (fun1 false Fun.ToMSet s)) n h =
      made-of w g x a s (ex2 true Op2.Member a (fun1 false Fun.ToMSet s)) n.0 h.1.0 h.1.1.0.1.0
  changed w g x (ex2 true Op2.Member a (fun1 false Fun.Parts s)) n h =
      made-of w g x a s (ex2 true Op2.Member a (fun1 false Fun.Parts s)) n.0 h.1.0 h.1.1.0.1.0
  changed w g x _ n h = tt

  equations-there : (x : Ex) (es : Exs) → IsTrue (list_all is_some (meanings (equations x es) env))
  equations-there x no_exs = refl
  equations-there x (more_exs a es) = equations-there x es

  equations-valued : (x : Ex) (es : Exs) → Valued false x env → AllValued false false es env → AllValued false false (equations x es) env
  equations-valued x no_exs h k = tt
  equations-valued x (more_exs a es) h k =
      ((tt, (values-along.in_places true x env h, (values-along.in_places true a env k.0, tt))), equations-valued x es h k.1)

  literal-valued : (w : Bool) (x : Ex) (es : Exs) → Valued false x env → AllValued false false es env →
      Valued w (fun1 true Fun.Or (node_ex false matrix_literal (equations x es))) env
  literal-valued w x es h k = (tt, ((list-there (equations x es) env (equations-there x es), equations-valued x es h k), tt))

  in-literal : (w : Bool) (e : Ex) → Valued w e env → Kept env w e (member_listed e)
  in-literal w (ex2 true Op2.Member x (node_ex false set_literal es)) h = λ q. literal-valued w x es h.1.0 h.1.1.0.1
  in-literal w (ex2 true Op2.Member x (node_ex false mset_literal es)) h = λ q. literal-valued w x es h.1.0 h.1.1.0.1
  in-literal w (ex2 true Op2.Member x (node_ex false relation_literal es)) h = λ q. literal-valued w x es h.1.0 h.1.1.0.1
  in-literal w _ h = tt

  -- ---- different items

  each-there-too : (a : Ex) (es rest : Exs) → IsTrue (list_all is_some (meanings rest env)) →
      IsTrue (list_all is_some (meanings (unequal_each a es rest) env))
  each-there-too a no_exs rest h = h
  each-there-too a (more_exs b es) rest h = each-there-too a es rest h

  pairs-there : (es : Exs) → IsTrue (list_all is_some (meanings (unequal_pairs es) env))
  pairs-there no_exs = refl
  pairs-there (more_exs a es) = each-there-too a es (unequal_pairs es) (pairs-there es)

  each-apart : (a : Ex) (es rest : Exs) → Valued false a env → AllValued false false es env → AllValued false false rest env →
      AllValued false false (unequal_each a es rest) env
  each-apart a no_exs rest h k l = l
  each-apart a (more_exs b es) rest h k l =
      ((tt, (values-along.in_places true b env k.0, (values-along.in_places true a env h, tt))), each-apart a es rest h k.1 l)

  pairs-valued : (es : Exs) → AllValued false false es env → AllValued false false (unequal_pairs es) env
  pairs-valued no_exs h = tt
  pairs-valued (more_exs a es) h = each-apart a es (unequal_pairs es) h.0 h.1 (pairs-valued es h.1)

  different : (w : Bool) (e : Ex) → Valued w e env → Kept env w e (different_listed e)
  different w (fun1 true Fun.AllDiff (node_ex false matrix_literal es)) h =
      λ q. (tt, ((list-there (unequal_pairs es) env (pairs-there es), pairs-valued es h.1.0.1), tt))
  different w _ h = tt

  -- ---- numbers that conditions choose

  and-thrice : (w : Bool) → (w && true) && false ≡ false
  and-thrice w = and-no (w && true)

  shorter : (w : Bool) (e : Ex) → Valued w e env → Kept env w e (choice_shorter e)
  shorter w (ex2 false Op2.Times (fun1 false Fun.ToInt c) (fun1 false Fun.ToInt d)) h = λ q. (
    kept (w && false) refl,
    ((tt, (subst (λ z. Valued z c env) (and-thrice w) h.1.0.1.0, λ t. (subst (λ z. Valued z d env) (and-thrice w) h.1.1.0.1.0, tt))), tt),
  )
    where
      kept : (b : Bool) → IsTrue (is_some (meaning (fun1 false Fun.ToInt (ex2 true Op2.And c d)) env)) →
          Unless b (IsTrue (is_some (meaning (fun1 false Fun.ToInt (ex2 true Op2.And c d)) env)))
      kept true k = tt
      kept false k = k
  shorter w (ex2 false Op2.Times (fun1 false Fun.ToInt c) (number_ex (pos (suc zero)))) h =
      λ q. subst (λ z. Valued z (fun1 false Fun.ToInt c) env) (and-yes w) h.1.0
  shorter w _ h = tt

  -- ---- each rule

  each : (s : Supply) (g : Names Ty) (r : Rule) (e : Ex) → is_shown r ≡ true → Unused s.one e → ComparesContainers r e → (w : Bool) →
      Valued w e env → Kept env w e (rewrite s g r e)
  each s g over_nothing e i n c w h = nothing env w e h
  each s g over_one e i n c w h = one-item env w e h
  each s g over_one_binding e i n c w h = bare env w e h
  each s g over_a_term e i n c w h = over-term env w s.one e h
  each s g over_a_condition e i n c w h = alone env w e h
  each s g component_of_a_tuple e i n c w h = component env w e h
  each s g field_of_a_record e i n c w h = field env w e h
  each s g not_equal e i n c w h = under env w (compares_compound g e) e _ (apart env w e h)
  each s g turned e i n c w h = turns env w e h
  each s g strictly e i n c w h = strict env w g s.one e h
  each s g equal_sets e i n c w h = same-members env w g s.one e n c h
  each s g equal_partitions e i n c w h = same-parts env w g s.one e n c h
  each s g with_nothing e i n c w h = no-items env w g s.one e c h
  each s g included_sets e i n c w h = included env w g s.one e n h
  each s g in_two e i n c w h = combined w e h
  each s g in_one_made_of_another e i n c w h = changed w g s.one e n h
  each s g in_a_literal e i n c w h = in-literal w e h
  each s g in_a_term e i n c w h = member w s.one e n h
  each s g different_items e i n c w h = unless env w (tells_scalars_apart g e) e (different_listed e) (different w e h)
  each s g list_of_a_term e i n c w h = list-of-term env w s.one e h
  each s g lists_on_both_sides e i n c w h = both-lists env w s.one e h
  each s g choice e i n c w h = shorter w e h
  each s g r e i n c w h = cc

  answered : (w : Bool) (e f : Ex) (r : Option Ex) → r ≡ Some f → Kept env w e r → meaning e env ≡ meaning f env → Valued w f env
  answered w e f r q a m = (subst (λ z. Kept env w e z) q a) m

-- What is proved of rules and values.
pub rules-keep-values : RulesKeepValues
rules-keep-values = λ s g r e f q i n c env m w h. answered env w e f (rewrite s g r e) q (each env s g r e i n c w h) m
