use Rattle.ess_core_nodes.specs.NodeViews.{pure_node}
use Rattle.ess_keys.proofs.Conjunctions.{many_items}
use Rattle.ess_keys.proofs.chains.has_many.Goals as goal

pub returns-in-Some : goal.returns-in-Some
returns-in-Some c = many_items (pure_node c.args.node.now) c.in-Some.items.now c.in-Some.ensures.part
