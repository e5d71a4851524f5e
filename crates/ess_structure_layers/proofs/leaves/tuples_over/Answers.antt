use Rattle.std.proofs.Common.{map}
use Rattle.ess_core_nodes.specs.NodeViews.{pure_node, pure_nodes, pure_mark}
use Rattle.ess_structure_layers.proofs.Listed.{relation_listed}
use Rattle.ess_structure_layers.proofs.leaves.tuples_over.Goals as goal

pub returns : goal.returns
returns c =
    relation_listed (pure_node c.in_ok-whole.whole) (pure_node c.args.view.now) c.args.level (map pure_mark c.args.marks.now)
    (pure_nodes c.args.numbers.now) c.args.parts.now c.args.name.now (pure_nodes c.args.at.now) c.in_ok-whole.ensures
