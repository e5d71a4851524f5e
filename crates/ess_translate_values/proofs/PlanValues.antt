-- The value of one plan, as code finds it: its tables, what they stand for at the domain with positions, and the types put back.
use Rattle.std.proofs.Common.{◌≡◌, refl, sym, ap, ◌∙◌, subst, true, List, [], map, Option, Some, None, option_map}
use Rattle.ess_semantics.specs.Lists.{and_then}
use Rattle.ess_semantics.specs.Values.{Text, Value}
use Rattle.ess_semantics.specs.Names.{Names, keys}
use Rattle.ess_semantics.specs.Trees as tree
use Rattle.ess_semantics.specs.Domains.{Domain}
use Rattle.ess_semantics.specs.Tables as pure
use Rattle.ess_semantics.specs.Declarations.{axes_of}
use Rattle.ess_semantics.specs.Representations.{value_of_tables}
use Rattle.ess_semantics.specs.Tidy.{over_axes}
use Rattle.ess_semantics.specs.Meaning.{Env, domain_of, tables_in}
use Rattle.ess_semantics.specs.Positions.{domain_with_positions, with_types}
use Rattle.ess_semantics.specs.Plans.{value_with_types, value_by_plan}
use Rattle.ess_core.specs.declared.tables.Table.{Table}
use Rattle.ess_core.specs.declared.values.Val.{Val}
use Rattle.ess_core.specs.TreeViews.{pure_repr, pure_dom}
use Rattle.ess_core.specs.ValueViews.{pure_val}
use Rattle.ess_eval_domains.specs.declared.closed.Closed.{Closed}
use Rattle.ess_eval_domains.specs.ClosedViews.{pure_closed}
use Rattle.ess_repr_laws.specs.Rooms.{Covered}
use Rattle.ess_repr_tables.specs.SlotViews.{pure_tables}
use Rattle.ess_translate_positions_laws.specs.Forms.{has_form}
use Rattle.ess_core.specs.declared.representations.Repr.{Repr}
use Rattle.ess_translate_members_laws.specs.PlanDomains.{plan_closed}
use Rattle.ess_translate_plans.specs.declared.plans.TableName.{TableName}
use Rattle.ess_translate_plans.specs.declared.plans.ValuePlan.{ValuePlan}
use Rattle.ess_translate_plans.specs.declared.plans.Plan.{Plan}
use Rattle.ess_translate_plans.specs.declared.plans.Plan.TheVariants as variant
use Rattle.ess_translate_plans.specs.Views.{pure_table_name, pure_value_plan, pure_plan}
use Rattle.ess_translate_values_laws.specs.ReadyPlans.{AreReady, IsReady}
use Rattle.ess_translate_values_laws.proofs.ReadyForms.{ready_form}

-- ---- what tables stand for, with types

module _ (r : tree.Repr) (e plain : Domain) (ts : pure.Tables) (is : plain ≡ domain_with_positions e) where
  -- What is answered at the domain with positions.
  abbrev pub AtPlain : Option Value → Type 0
  AtPlain o = Covered r plain → over_axes [] (axes_of r plain) ts ≡ true → o ≡ value_of_tables r plain ts []

  there : (o : Option Value) → AtPlain o → AreReady r e ts → o ≡ value_of_tables r (domain_with_positions e) ts []
  there o f a =
      subst (λ d. Covered r d → over_axes [] (axes_of r d) ts ≡ true → o ≡ value_of_tables r d ts []) is f a.covered a.over

  pub types_there : (v : Value) (w o : Option Value) → w ≡ Some v → AtPlain w → (has_form e v ≡ true → o ≡ with_types e v) →
      AreReady r e ts → o ≡ value_with_types r e ts
  types_there v w o q f g a =
      let h : Some v ≡ value_of_tables r (domain_with_positions e) ts [] = sym q ∙ there w f a in
      g (ready_form r e ts v a (sym h)) ∙ ap (λ u. and_then u (with_types e)) h

  pub no_value_there : (w : Option Value) → w ≡ None → AtPlain w → AreReady r e ts → None ≡ value_with_types r e ts
  no_value_there w q f a = ap (λ u. and_then u (with_types e)) (sym q ∙ there w f a)

-- ---- one plan

module _ (plan : ValuePlan) (c : Names pure.Table) where
  pub value_read : (d : Closed) (ot : Option (List Table)) (ts us : List Table) (o : Option Val) → ot ≡ Some ts → us ≡ ts →
      option_map pure_tables ot ≡ tables_in c (keys (map pure_table_name plan.tables)) →
      (AreReady (pure_repr plan.tree) (pure_closed d) (pure_tables us) → option_map pure_val o ≡ value_with_types (pure_repr plan.tree)
      (pure_closed d) (pure_tables us)) →
      (env : Env) → Some (pure_closed d) ≡ domain_of (pure_dom plan.dom) env → IsReady env c (pure_value_plan plan) →
      option_map pure_val o ≡ value_by_plan env c (pure_value_plan plan)
  value_read d ot ts us o q same t f env at ready =
      let g : Some (pure_tables ts) ≡ tables_in c (keys (map pure_table_name plan.tables)) = sym (ap (option_map pure_tables) q) ∙ t in
      let h : AreReady (pure_repr plan.tree) (pure_closed d) (pure_tables us) =
      subst (λ l. AreReady (pure_repr plan.tree) (pure_closed d) (pure_tables l)) (sym same)
      (ready (pure_closed d) (pure_tables ts) (sym at) (sym g)) in
      f h ∙ ap (λ l. value_with_types (pure_repr plan.tree) (pure_closed d) (pure_tables l)) same
      ∙ ap (λ o. and_then o (λ ts. value_with_types (pure_repr plan.tree) (pure_closed d) ts)) g
      ∙ ap (λ o. and_then o (λ e. and_then (tables_in c (keys (map pure_table_name plan.tables)))
      (λ ts. value_with_types (pure_repr plan.tree) e ts))) at

  pub no_tables_read : (d : Closed) (ot : Option (List Table)) → ot ≡ None → option_map pure_tables ot ≡ tables_in c
      (keys (map pure_table_name plan.tables)) →
      (env : Env) → Some (pure_closed d) ≡ domain_of (pure_dom plan.dom) env → IsReady env c (pure_value_plan plan) →
      None ≡ value_by_plan env c (pure_value_plan plan)
  no_tables_read d ot q t env at ready =
      ap (λ o. and_then o (λ ts. value_with_types (pure_repr plan.tree) (pure_closed d) ts)) (sym (ap (option_map pure_tables) q) ∙ t)
      ∙ ap (λ o. and_then o (λ e. and_then (tables_in c (keys (map pure_table_name plan.tables)))
      (λ ts. value_with_types (pure_repr plan.tree) e ts))) at

  pub no_domain_read : (env : Env) → None ≡ domain_of (pure_dom plan.dom) env → IsReady env c (pure_value_plan plan) →
      None ≡ value_by_plan env c (pure_value_plan plan)
  no_domain_read env at ready =
      ap (λ o. and_then o (λ e. and_then (tables_in c (keys (map pure_table_name plan.tables)))
      (λ ts. value_with_types (pure_repr plan.tree) e ts))) at

  -- The same by what the calls answer.
  pub value_found : (od : Option Closed) (d dd : Closed) (rr : Repr) (ns : List TableName) (ot : Option (List Table)) (ts us : List Table)
      (o : Option Val) → od ≡ Some d → dd ≡ d → rr ≡ plan.tree → ns ≡ plan.tables → ot ≡ Some ts → us ≡ ts →
      option_map pure_tables ot ≡ tables_in c (keys (map pure_table_name ns)) →
      (AreReady (pure_repr rr) (pure_closed dd) (pure_tables us) →
      option_map pure_val o ≡ value_with_types (pure_repr rr) (pure_closed dd) (pure_tables us)) →
      (env : Env) → option_map pure_closed od ≡ domain_of (pure_dom plan.dom) env → IsReady env c (pure_value_plan plan) →
      option_map pure_val o ≡ value_by_plan env c (pure_value_plan plan)
  value_found od d dd rr ns ot ts us o is same alike those q all t f env at ready =
      value_read d ot ts us o q all (t ∙ ap (λ l. tables_in c (keys (map pure_table_name l))) those)
      (subst (λ x. AreReady (pure_repr x) (pure_closed d) (pure_tables us) →
      option_map pure_val o ≡ value_with_types (pure_repr x) (pure_closed d) (pure_tables us)) alike
      (subst (λ e. AreReady (pure_repr rr) (pure_closed e) (pure_tables us) →
      option_map pure_val o ≡ value_with_types (pure_repr rr) (pure_closed e) (pure_tables us)) same f))
      env (sym (ap (option_map pure_closed) is) ∙ at) ready

-- The answer of a plan of a given or find is the value that is read.
abbrev pub Reads : Names pure.Table → Option Closed → Option Val → ValuePlan → Type 0
Reads c od o v = (env : Env) → option_map pure_closed od ≡ domain_of (pure_dom v.dom) env → IsReady env c (pure_value_plan v) →
    option_map pure_val o ≡ value_by_plan env c (pure_value_plan v)

pub answer_found : (p : Plan) (v g : ValuePlan) (c : Names pure.Table) (od : Option Closed) (o : Option Val) → p ≡ variant.Value v → g ≡ v →
    Reads c od o g → (env : Env) → option_map pure_closed od ≡ plan_closed env (pure_plan p) → IsReady env c (pure_plan p) →
    option_map pure_val o ≡ value_by_plan env c (pure_plan p)
answer_found p v g c od o is same f =
    subst (λ q. (env : Env) → option_map pure_closed od ≡ plan_closed env (pure_plan q) → IsReady env c (pure_plan q) →
    option_map pure_val o ≡ value_by_plan env c (pure_plan q)) (sym is) (subst (Reads c od o) same f)
