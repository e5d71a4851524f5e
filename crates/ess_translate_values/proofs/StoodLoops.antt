-- The values of all finds, found one after the other.
use Rattle.std.proofs.Common.{◌≡◌, refl, sym, ap, ◌∙◌, subst, ℕ, ◌+◌, ◌<◌, ◌≤◌, List, [], ◌∷◌, ◌++◌, map, filter, length, drop, get_or, Option, option_map, append_assoc, append-nil}
use Rattle.std.proofs.lemmas.List.{at_drop_more, at_drop_all, map_push}
use Rattle.ess_semantics.specs.Values.{Text, Value}
use Rattle.ess_semantics.specs.Names.{Names}
use Rattle.ess_semantics.specs.Trees.{Stm}
use Rattle.ess_semantics.specs.Tables.{Table}
use Rattle.ess_semantics.specs.Contexts.{Each}
use Rattle.ess_semantics.specs.Meaning.{Env}
use Rattle.ess_semantics.specs.Assignments.{Assignment}
use Rattle.ess_semantics.specs.Plans.{Options, finds_side, is_plan_of, common_value, plans, plans_for, value_names, values_stood_for}
use Rattle.conjure_laws.specs.Premises.{is_on, here}
use Rattle.ess_core.specs.declared.values.Val.{Val}
use Rattle.ess_core.specs.ValueViews.{pure_val}
use Rattle.ess_eval_domains.specs.declared.closed.Closed.{Closed}
use Rattle.ess_eval_domains.specs.ClosedViews.{pure_closed}
use Rattle.ess_translate_plans.specs.declared.plans.Plan.{Plan}
use Rattle.ess_translate_plans.specs.Views.{pure_plan}
use Rattle.ess_translate_members_laws.specs.PlanDomains.{plan_closed}
use Rattle.ess_translate_values_laws.specs.ReadyPlans.{IsReady}
use Rattle.ess_translate_values.specs.declared.stood.StoodFor.{StoodFor}
use Rattle.ess_translate_values.specs.StoodValues.{pure_stood, AreAtPlans}

-- The values of these finds.
abbrev values_of : Env → Names Table → List Plan → List Text → Names (Option Value)
values_of env c ps xs = map (λ x. (x, common_value env c (filter (is_plan_of x) (map pure_plan ps)))) xs

module _ (ps : List Plan) (es : List (Option Closed)) (c : Names Table) (xs : List Text) where
  -- The values of the first i finds.
  pub record StoodSoFar (i : ℕ) (all : List StoodFor) : Type 0 where
    pub so_far : (env : Env) → AreAtPlans env ps es c → values_of env c ps xs ≡ map pure_stood all ++ values_of env c ps (drop i xs)

  pub stood_none : StoodSoFar 0 []
  stood_none = record { so_far = λ env a. refl }

  pub stood_more : (i : ℕ) (x e : Text) (all all' : List StoodFor) (o : Option Val) (s : StoodFor) → i < length xs → x ≡ get_or xs i e →
      ((env : Env) → AreAtPlans env ps es c → option_map pure_val o ≡ common_value env c (filter (is_plan_of x) (map pure_plan ps))) →
      pure_stood s ≡ (x, option_map pure_val o) → all' ≡ all ++ s ∷ [] → StoodSoFar i all → StoodSoFar (i + 1) all'
  stood_more i x e all all' o s h is f p g l = record {
    so_far = λ env a.
        let q : pure_stood s ≡ (x, common_value env c (filter (is_plan_of x) (map pure_plan ps))) = p ∙ ap (λ v. (x, v)) (f env a) in
        l.so_far env a
        ∙ ap (λ r. map pure_stood all ++ r) (at_drop_more (values_of env c ps) xs i e h
        ∙ ap (λ y. (y, common_value env c (filter (is_plan_of y) (map pure_plan ps))) ∷ values_of env c ps (drop (i + 1) xs)) (sym is)
        ∙ ap (λ y. y ∷ values_of env c ps (drop (i + 1) xs)) (sym q))
        ∙ sym (append_assoc (map pure_stood all) (pure_stood s ∷ []) (values_of env c ps (drop (i + 1) xs)))
        ∙ ap (λ r. r ++ values_of env c ps (drop (i + 1) xs)) (sym (ap (map pure_stood) g ∙ map_push pure_stood all s));
  }

  pub stood_all : (i : ℕ) (all : List StoodFor) → length xs ≤ i → StoodSoFar i all → (S : List Stm) (o : Options) (p : Assignment) →
      map pure_plan ps ≡ plans S o →
      map (option_map pure_closed) es ≡ map (plan_closed (here S p)) (plans S o) → xs ≡ value_names finds_side S →
      Each (plans_for finds_side S o) (IsReady (here S p) c) → map pure_stood all ≡ values_stood_for S o p c
  stood_all i all h l S o p same domains names ready =
      let a : AreAtPlans (here S p) ps es c = record {
        domains = domains ∙ ap (map (plan_closed (here S p))) (sym same);
        ready = subst (λ qs. Each (filter (is_on finds_side) qs) (IsReady (here S p) c)) (sym same) ready;
      } in
      sym (l.so_far (here S p) a ∙ ap (λ r. map pure_stood all ++ r) (at_drop_all (values_of (here S p) c ps) xs i h)
      ∙ append-nil (map pure_stood all))
      ∙ ap (λ qs. map (λ x. (x, common_value (here S p) c (filter (is_plan_of x) qs))) xs) same
      ∙ ap (map (λ x. (x, common_value (here S p) c (filter (is_plan_of x) (plans S o))))) names
