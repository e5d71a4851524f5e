use Rattle.std.proofs.Common.{◌∙◌, map, option_map}
use Rattle.std.proofs.lemmas.Result.{IfOk-weaker}
use Rattle.ess_eval_domains.specs.ClosedViews.{pure_closed}
use Rattle.ess_translate_plans.specs.Views.{pure_plan}
use Rattle.ess_translate_given.proofs.HeaderCounts.{first_found}
use Rattle.ess_translate_given.proofs.counts.first_too_many.Goals as goal

pub returns : goal.returns
returns c =
    IfOk-weaker c.first_above.result _ _
    (λ o e. first_found (map pure_plan c.args.plans.now) (map (option_map pure_closed) c.args.closed.now) c.as_slice.result.now o
    (c.as_slice.ensures ∙ c.in_ok-counts.ensures) e)
    c.first_above.ensures
