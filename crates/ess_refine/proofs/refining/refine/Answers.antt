use Rattle.std.proofs.Common.{sym, ◌∙◌}
use Rattle.ess_core_nodes.specs.NodeViews.{pure_node}
use Rattle.ess_refine.proofs.Endings.{ended_stuck}
use Rattle.ess_refine.proofs.refining.refine.Goals as goal

pub returns-else-is_refined-clause-says : goal.returns-else-is_refined-clause-says
returns-else-is_refined-clause-says c =
    ended_stuck c.args.next.now c.passed.new.next (pure_node c.args.node.now) (pure_node c.passed.new.node) c.in_ok-passed.ensures
    (sym c.is_refined.ensures ∙ c.if-is_refined.false)
