use Rattle.std.proofs.Common.{◌∙◌}
use Rattle.std.proofs.lemmas.Result.{IfOk-weaker}
use Rattle.ess_rules_gathered.proofs.ConditionRows.{others_end, others_none}
use Rattle.ess_rules_gathered.proofs.parts.+others.Goals as goal

pub returns-in_default : goal.returns-in_default
returns-in_default t c = others_end c.args.done c.args.gens.now c.in_default.ensures.cases

pub returns-in_ok-push-in-None : goal.returns-in_ok-push-in-None
returns-in_ok-push-in-None t c =
    IfOk-weaker c.others-in-None.result _ _
    (λ gs h. h ∙ others_none c.args.done c.push.new.self c.into_inner.result c.in-Some.first.now c.in-Some.rest.now c.args.gens.now
    c.in-Some.ensures.cases.0 c.in-None.ensures (c.into_inner.ensures ∙ c.in_ok-copy-in-None.ensures) c.in_ok-push-in-None.ensures.ok)
    c.others-in-None.ensures
