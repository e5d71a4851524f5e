use Rattle.std.proofs.Common.{subst, option_map}
use Rattle.ess_core_nodes.specs.NodeViews.{pure_node}
use Rattle.ess_model_written.specs.Bounds.{BoundPrints}
use Rattle.ess_model_written.proofs.BoundSteps.{bound_stuck}
use Rattle.ess_model_written.proofs.bounds.bounds_printed.Goals as goal

pub returns-in-None : goal.returns-in-None
returns-in-None c =
    bound_stuck c.args.taken.now c.args.number c.args.bounds.now c.loop-bound.bound-index c.bound-item.result c.loop-bound-test.true
    c.bound-item.is
    (subst (λ o. BoundPrints c.args.taken.now c.args.number (pure_node c.bound-item.result) (option_map pure_node o)) c.in-None.is
    c.in_ok-node.ensures)
