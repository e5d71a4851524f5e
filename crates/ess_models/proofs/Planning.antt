-- The plans of a specification with representations that fit are those of the definitions.
use Rattle.std.proofs.Common.{◌≡◌, refl, sym, ap, ◌∙◌, subst, List, map, Ok, Err, IfOk}
use Rattle.std.specs.declared.result.Result.{Result}
use Rattle.ess_semantics.specs.Values.{Text}
use Rattle.ess_semantics.specs.Lists.{append_all}
use Rattle.ess_semantics.specs.Contexts.{Each}
use Rattle.ess_semantics.specs.Parameters.{all_declared}
use Rattle.ess_semantics.specs.Prepared.{prepared}
use Rattle.ess_semantics.specs.Plans as pure_plans
use Rattle.ess_semantics.specs.Plans.{domain_of_stm, plans}
use Rattle.ess_core.specs.StatementViews.{pure_stm, pure_spec}
use Rattle.ess_core.specs.declared.statements.Stm.{Stm}
use Rattle.ess_parse.specs.declared.representations.named.NamedReprs.{NamedReprs}
use Rattle.ess_parse.specs.NamedReprViews.{pure_named_reprs}
use Rattle.ess_types.specs.declared.checking.Typed.{Typed}
use Rattle.ess_translate_plans_laws.specs.Requests.{Request, requests, plans_for_all, HasNumbers, IsRightRequest, SameNames}
use Rattle.ess_translate_plans_laws.specs.Laws.{taken_at_first}
use Rattle.ess_translate_plans_laws.proofs.InOrder.{plans-alike, come-in-order}
use Rattle.ess_translate_plans.specs.declared.plans.Plan.{Plan}
use Rattle.ess_translate_plans.specs.Views.{pure_plan}
use Rattle.ess_models.specs.Checked.{IsChecked, Fit}
use Rattle.ess_models.proofs.Numbered.{stms-numbered}

-- What statements and representations ask for.
abbrev asked_by : List Stm → List NamedReprs → List Request
asked_by ss rs = requests (map pure_stm ss) (map pure_named_reprs rs)

-- Plans.
planned : (t : Typed) (reprs : List NamedReprs) (ps : List pure_plans.Plan) (D : List Text) → SameNames D (all_declared (pure_spec t.spec))
    → (Each (asked_by t.prepared.stms reprs) IsRightRequest → ps ≡ plans_for_all (asked_by t.prepared.stms reprs) D taken_at_first)
    → IsChecked t → Fit (pure_spec t.spec) (map pure_named_reprs reprs) → ps ≡ plans (pure_spec t.spec) (map pure_named_reprs reprs)
planned t reprs ps D s k i f =
    let S = pure_spec t.spec in
    let R = map pure_named_reprs reprs in
    let c = come-in-order S R i.typed f
    (subst (λ q. Each (append_all (map domain_of_stm q)) (λ x. HasNumbers x.1)) i.prepared (stms-numbered t.prepared.stms)) in
    k (subst (λ q. Each (requests q R) IsRightRequest) (sym i.prepared) c.right)
    ∙ ap (λ q. plans_for_all (requests q R) D taken_at_first) i.prepared
    ∙ plans-alike (requests (prepared S) R) D (all_declared S) taken_at_first taken_at_first s (λ a. refl) ∙ c.plans

-- Those that are answered.
pub plans_answered : {E : Type 0} (t : Typed) (reprs : List NamedReprs) (r : Result (List Plan) E) (D : List Text)
    → SameNames D (all_declared (pure_spec t.spec))
    → IfOk r (λ ps. Each (asked_by t.prepared.stms reprs) IsRightRequest
    → map pure_plan ps ≡ plans_for_all (asked_by t.prepared.stms reprs) D taken_at_first)
    → IsChecked t → Fit (pure_spec t.spec) (map pure_named_reprs reprs)
    → IfOk r (λ ps. map pure_plan ps ≡ plans (pure_spec t.spec) (map pure_named_reprs reprs))
plans_answered t reprs (Err why) D s k i f = tt
plans_answered t reprs (Ok ps) D s k i f = planned t reprs (map pure_plan ps) D s k i f
