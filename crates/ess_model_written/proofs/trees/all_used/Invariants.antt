use Rattle.std.proofs.Common.{map, take}
use Rattle.ess_core_nodes.specs.NodeViews.{pure_node}
use Rattle.eprime_tree.specs.Views.{pure_ex}
use Rattle.eprime_read_convert.specs.Lines.{scope_of}
use Rattle.ess_model_written.specs.Answered.{AllUsed}
use Rattle.ess_model_written.specs.RulesWritten.{TreeComes, unless_true}
use Rattle.ess_model_written.proofs.trees.all_used.Given as goal

abbrev pub invariant-loop-tree : goal.invariant-loop-tree
invariant-loop-tree l =
    AllUsed (TreeComes (scope_of l.lines) l.taken l.number) unless_true (map pure_node (take l.tree-index l.trees))
    (map (pure_ex (scope_of l.lines)) l.rules)
