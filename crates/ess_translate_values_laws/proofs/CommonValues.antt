-- The common value of plans is the one that their answers agree on; the answers are found plan by plan.
use Rattle.std.proofs.Common.{◌≡◌, refl, sym, ap, ◌∙◌, subst, Bool, true, false, ◌&&◌, if◌then◌else◌, List, [], ◌∷◌, ◌++◌, map, filter, Option, Some, None, append_assoc}
use Rattle.std.specs.List.{list_all}
use Rattle.ess_semantics.specs.Lists.{and_then, when}
use Rattle.ess_semantics.specs.Values.{Text, Value}
use Rattle.ess_semantics.specs.Names.{Names}
use Rattle.ess_semantics.specs.Domains.{Domain}
use Rattle.ess_semantics.specs.Tables.{Table}
use Rattle.ess_semantics.specs.Contexts.{Each}
use Rattle.ess_semantics.specs.Meaning.{Env}
use Rattle.ess_semantics.specs.Plans.{Plan, size_plan, value_plan, givens_side, finds_side, is_plan_of, same_value, value_by_plan, common_value}
use Rattle.conjure_laws.specs.Premises.{is_on}
use Rattle.ess_translate_members_laws.specs.PlanDomains.{plan_closed}
use Rattle.ess_translate_values_laws.specs.ReadyPlans.{IsReady}
use Rattle.ess_translate_values_laws.specs.CommonValues.{agreed}

module _ (env : Env) (c : Names Table) where
  each-same : (v : Value) (ps : List Plan) →
      list_all (λ q. same_value v (value_by_plan env c q)) ps ≡ list_all (same_value v) (map (value_by_plan env c) ps)
  each-same v [] = refl
  each-same v (p ∷ ps) = ap (λ b. same_value v (value_by_plan env c p) && b) (each-same v ps)

  pub common-agreed : (ps : List Plan) → common_value env c ps ≡ agreed (map (value_by_plan env c) ps)
  common-agreed [] = refl
  common-agreed (p ∷ ps) = go (value_by_plan env c p)
    where
      go : (o : Option Value) →
          and_then o (λ v. when (list_all (λ q. same_value v (value_by_plan env c q)) ps) v) ≡
          and_then o (λ v. when (list_all (same_value v) (map (value_by_plan env c) ps)) v)
      go None = refl
      go (Some v) = ap (λ b. when b v) (each-same v ps)

  -- Of plans that are still to come with their domains: what is known of them, and what their answers are behind those that are found.
  pub record AnswersLeft (x : Text) (whole : List (Option Value)) (ps : List Plan) (es : List (Option Domain))
      (found : List (Option Value)) : Type 0 where
    pub domains : es ≡ map (plan_closed env) ps
    pub ready : Each (filter (is_on finds_side) ps) (IsReady env c)
    pub left : whole ≡ found ++ map (value_by_plan env c) (filter (is_plan_of x) ps)

  -- Of the first plan, where it is one of the finds.
  first-ready : (P : Plan) (ps : List Plan) → is_on finds_side P ≡ true → Each (filter (is_on finds_side) (P ∷ ps)) (IsReady env c) →
      IsReady env c P × Each (filter (is_on finds_side) ps) (IsReady env c)
  first-ready P ps h e =
      subst (λ b. Each (if b then P ∷ filter (is_on finds_side) ps else filter (is_on finds_side) ps) (IsReady env c)) h e

  others-ready : (P : Plan) (ps : List Plan) → Each (filter (is_on finds_side) (P ∷ ps)) (IsReady env c) →
      Each (filter (is_on finds_side) ps) (IsReady env c)
  others-ready P ps e = go (is_on finds_side P) e
    where
      go : (b : Bool) → Each (if b then P ∷ filter (is_on finds_side) ps else filter (is_on finds_side) ps) (IsReady env c) →
          Each (filter (is_on finds_side) ps) (IsReady env c)
      go true e = e.1
      go false e = e

  of-find : (x : Text) (P : Plan) → is_plan_of x P ≡ true → is_on finds_side P ≡ true
  of-find x (size_plan t a) h = cc
  of-find x (value_plan givens_side y r d ns) h = cc
  of-find x (value_plan finds_side y r d ns) h = refl

  -- The answer of a plan of the find goes behind those that are found.
  pub answer-found : (x : Text) (whole : List (Option Value)) (P : Plan) (ps : List Plan) (e : Option Domain) (es : List (Option Domain))
      (found : List (Option Value))
      (o : Option Value) → is_plan_of x P ≡ true → (e ≡ plan_closed env P → IsReady env c P → o ≡ value_by_plan env c P) →
      AnswersLeft x whole (P ∷ ps) (e ∷ es) found → AnswersLeft x whole ps es (found ++ o ∷ [])
  answer-found x whole P ps e es found o h f l =
      let q : e ∷ es ≡ plan_closed env P ∷ map (plan_closed env) ps = l.domains in
      let first : e ≡ plan_closed env P = cc in
      let others : es ≡ map (plan_closed env) ps = cc in
      let r = first-ready P ps (of-find x P h) l.ready in record {
        domains = others;
        ready = r.1;
        left =
            l.left
            ∙ ap (λ b. found ++ map (value_by_plan env c) (if b then P ∷ filter (is_plan_of x) ps else filter (is_plan_of x) ps)) h
            ∙ ap (λ a. found ++ (a ∷ map (value_by_plan env c) (filter (is_plan_of x) ps))) (sym (f first r.0))
            ∙ sym (append_assoc found (o ∷ []) (map (value_by_plan env c) (filter (is_plan_of x) ps)));
      }

  -- Any other plan has none.
  pub answer-skipped : (x : Text) (whole : List (Option Value)) (P : Plan) (ps : List Plan) (e : Option Domain) (es : List (Option Domain))
      (found : List (Option Value)) →
      is_plan_of x P ≡ false → AnswersLeft x whole (P ∷ ps) (e ∷ es) found → AnswersLeft x whole ps es found
  answer-skipped x whole P ps e es found h l =
      let q : e ∷ es ≡ plan_closed env P ∷ map (plan_closed env) ps = l.domains in
      let others : es ≡ map (plan_closed env) ps = cc in record {
        domains = others;
        ready = others-ready P ps l.ready;
        left =
            l.left
            ∙ ap (λ b. found ++ map (value_by_plan env c) (if b then P ∷ filter (is_plan_of x) ps else filter (is_plan_of x) ps)) h;
      }
