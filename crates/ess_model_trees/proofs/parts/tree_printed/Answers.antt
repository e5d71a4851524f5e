use Rattle.std.specs.Prelude.{[], option_map}
use Rattle.ess_core_nodes.specs.NodeViews.{pure_node}
use Rattle.conjure_model_laws.specs.ToldApart.{told, told_apart}
use Rattle.ess_model_trees.proofs.Coming.{prints_from}
use Rattle.ess_model_trees.proofs.parts.tree_printed.Goals as goal

pub returns : goal.returns
returns c = prints_from c.printing.result (option_map pure_node) c.args.taken.now
    c.told_apart_from.new.next (told (pure_node c.args.node.now) [] c.args.number).1 c.printing.new.next
    (pure_node c.in_ok-tree.tree) (told_apart c.args.number (pure_node c.args.node.now))
    c.in_ok-tree.ensures.next c.in_ok-tree.ensures.tree c.printing.ensures
