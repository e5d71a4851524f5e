use Rattle.std.specs.Prelude.{[], option_map}
use Rattle.ess_core_nodes.specs.NodeViews.{pure_node}
use Rattle.eprime_tree.specs.Views.{pure_ex}
use Rattle.eprime_read_convert.specs.Lines.{scope_of}
use Rattle.conjure_model_laws.specs.ToldApart.{told, told_apart}
use Rattle.ess_model_trees.proofs.Coming.{comes_from}
use Rattle.ess_model_trees.proofs.parts.tree_written.Goals as goal

pub returns : goal.returns
returns c = comes_from c.written.result (option_map (pure_ex (scope_of c.args.lines.now))) (scope_of c.args.lines.now) c.args.taken.now
    c.told_apart_from.new.next (told (pure_node c.args.node.now) [] c.args.number).1 c.written.new.next
    (pure_node c.in_ok-tree.tree) (told_apart c.args.number (pure_node c.args.node.now))
    c.in_ok-tree.ensures.next c.in_ok-tree.ensures.tree c.written.ensures
