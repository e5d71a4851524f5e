-- What the plans of a find answer, found one after the other.
use Rattle.std.proofs.Common.{◌≡◌, refl, sym, ap, ◌∙◌, subst, ℕ, ◌+◌, ◌<◌, ◌≤◌, true, false, List, [], ◌∷◌, ◌++◌, map, filter, length, drop, get_or, Option, option_map, append-nil}
use Rattle.std.proofs.lemmas.List.{at_drop_more, at_drop_all, map_push}
use Rattle.ess_semantics.specs.Values.{Text, Value}
use Rattle.ess_semantics.specs.Names.{Names}
use Rattle.ess_semantics.specs.Domains.{Domain}
use Rattle.ess_semantics.specs.Tables.{Table}
use Rattle.ess_semantics.specs.Meaning.{Env}
use Rattle.ess_semantics.specs.Plans as pure
use Rattle.ess_semantics.specs.Plans.{is_plan_of, value_by_plan, common_value}
use Rattle.ess_core.specs.declared.values.Val.{Val}
use Rattle.ess_core.specs.ValueViews.{pure_val}
use Rattle.ess_eval_domains.specs.declared.closed.Closed.{Closed}
use Rattle.ess_eval_domains.specs.ClosedViews.{pure_closed}
use Rattle.ess_translate_plans.specs.declared.plans.Plan.{Plan}
use Rattle.ess_translate_plans.specs.Views.{pure_plan}
use Rattle.ess_translate_members_laws.specs.PlanDomains.{plan_closed}
use Rattle.ess_translate_values_laws.specs.ReadyPlans.{IsReady}
use Rattle.ess_translate_values_laws.specs.CommonValues.{agreed}
use Rattle.ess_translate_values_laws.proofs.CommonValues.{common-agreed, AnswersLeft, answer-found, answer-skipped}
use Rattle.ess_translate_values.specs.StoodValues.{AreAtPlans}

-- The answers as values, and what they are to be.
abbrev values : List (Option Val) → List (Option Value)
values os = map (option_map pure_val) os

abbrev wanted : Env → Names Table → Text → List Plan → List (Option Value)
wanted env c x ps = map (value_by_plan env c) (filter (is_plan_of x) (map pure_plan ps))

module _ (ps : List Plan) (es : List (Option Closed)) (c : Names Table) (x : Text) where
  -- The answers of the first i plans.
  pub record AnswersSoFar (i : ℕ) (os : List (Option Val)) : Type 0 where
    pub so_far : (env : Env) → AreAtPlans env ps es c →
        AnswersLeft env c x (map (value_by_plan env c) (filter (is_plan_of x) (map pure_plan ps))) (map pure_plan (drop i ps))
        (map (option_map pure_closed) (drop i es)) (map (option_map pure_val) os)

  pub answers_none : AnswersSoFar 0 []
  answers_none = record { so_far = λ env a. record { domains = a.domains; ready = a.ready; left = refl } }

  module _ (i : ℕ) (p pe : Plan) (e ee : Option Closed) (os : List (Option Val)) (h : i < length ps) (k : i < length es)
      (is : p ≡ get_or ps i pe) (js : e ≡ get_or es i ee)
      (s : AnswersSoFar i os) where
    opened : (env : Env) → AreAtPlans env ps es c →
        AnswersLeft env c x (wanted env c x ps) (pure_plan p ∷ map pure_plan (drop (i + 1) ps))
        (option_map pure_closed e ∷ map (option_map pure_closed) (drop (i + 1) es)) (values os)
    opened env a =
        let qs : map pure_plan (drop i ps) ≡ pure_plan p ∷ map pure_plan (drop (i + 1) ps) =
        at_drop_more (map pure_plan) ps i pe h ∙ ap (λ q. pure_plan q ∷ map pure_plan (drop (i + 1) ps)) (sym is) in
        let ds : map (option_map pure_closed) (drop i es) ≡ option_map pure_closed e ∷ map (option_map pure_closed) (drop (i + 1) es) =
        at_drop_more (map (option_map pure_closed)) es i ee k
        ∙ ap (λ q. option_map pure_closed q ∷ map (option_map pure_closed) (drop (i + 1) es)) (sym js) in
        subst (λ l. AnswersLeft env c x (wanted env c x ps) (pure_plan p ∷ map pure_plan (drop (i + 1) ps)) l (values os)) ds
        (subst (λ l. AnswersLeft env c x (wanted env c x ps) l (map (option_map pure_closed) (drop i es)) (values os)) qs (s.so_far env a))

    pub answers_more : (os' : List (Option Val)) (o : Option Val) → true ≡ is_plan_of x (pure_plan p) →
        ((env : Env) → option_map pure_closed e ≡ plan_closed env (pure_plan p) → IsReady env c (pure_plan p) →
        option_map pure_val o ≡ value_by_plan env c (pure_plan p)) →
        os' ≡ os ++ o ∷ [] → AnswersSoFar (i + 1) os'
    answers_more os' o b f g = record {
      so_far = λ env a.
          subst (λ l. AnswersLeft env c x (wanted env c x ps) (map pure_plan (drop (i + 1) ps))
          (map (option_map pure_closed) (drop (i + 1) es)) l)
          (sym (ap values g ∙ map_push (option_map pure_val) os o))
          (answer-found env c x (wanted env c x ps) (pure_plan p) (map pure_plan (drop (i + 1) ps)) (option_map pure_closed e)
          (map (option_map pure_closed) (drop (i + 1) es)) (values os)
          (option_map pure_val o) (sym b) (f env) (opened env a));
    }

    pub answers_skip : false ≡ is_plan_of x (pure_plan p) → AnswersSoFar (i + 1) os
    answers_skip b = record {
      so_far = λ env a.
          answer-skipped env c x (wanted env c x ps) (pure_plan p) (map pure_plan (drop (i + 1) ps)) (option_map pure_closed e)
          (map (option_map pure_closed) (drop (i + 1) es)) (values os)
          (sym b) (opened env a);
    }

  pub answers_all : (i : ℕ) (os : List (Option Val)) → length ps ≤ i → AnswersSoFar i os → (env : Env) → AreAtPlans env ps es c →
      map (option_map pure_val) os ≡ map (value_by_plan env c) (filter (is_plan_of x) (map pure_plan ps))
  answers_all i os h s env a =
      let l = s.so_far env a in
      sym (l.left ∙ ap (λ qs. values os ++ qs) (at_drop_all (wanted env c x) ps i h) ∙ append-nil (values os))

  -- The common value of the plans is the one on which the answers agree.
  pub common_found : (os us : List (Option Val)) (o : Option Val) → us ≡ os →
      ((env : Env) → AreAtPlans env ps es c → map (option_map pure_val) os ≡ map (value_by_plan env c)
      (filter (is_plan_of x) (map pure_plan ps))) →
      option_map pure_val o ≡ agreed (map (option_map pure_val) us) → (env : Env) → AreAtPlans env ps es c →
      option_map pure_val o ≡ common_value env c (filter (is_plan_of x) (map pure_plan ps))
  common_found os us o same f q env a =
      q ∙ ap (λ l. agreed (values l)) same ∙ ap agreed (f env a) ∙ sym (common-agreed env c (filter (is_plan_of x) (map pure_plan ps)))
