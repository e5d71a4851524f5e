use Rattle.std.proofs.Common.{ap, sym, ◌∙◌, Some}
use Rattle.ess_semantics.specs.Values.{truth}
use Rattle.ess_core.proofs.ValueEquations.{pure_truth}
use Rattle.ess_eval_operators.proofs.Applied.{relation_applied}
use Rattle.ess_eval_operators.proofs.applications.apply.Goals as goal

pub returns-in-Relation : goal.returns-in-Relation
returns-in-Relation c =
    ap Some (pure_truth c.related.result) ∙ ap (λ b. Some (truth b)) c.related.ensures
    ∙ sym (relation_applied c.args.of.now c.in-Relation.tuples c.args.arguments c.in-Relation.is)
