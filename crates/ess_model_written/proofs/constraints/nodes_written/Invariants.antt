use Rattle.std.proofs.Common.{map, take}
use Rattle.ess_core_nodes.specs.NodeViews.{pure_node}
use Rattle.eprime_tree.specs.Views.{pure_ex}
use Rattle.eprime_read_convert.specs.Lines.{scope_of}
use Rattle.ess_model_shown.specs.Tables.{pure_shows}
use Rattle.ess_model_written.specs.Answered.{AllCome}
use Rattle.ess_model_written.specs.RulesWritten.{ConstraintComes}
use Rattle.ess_model_written.proofs.constraints.nodes_written.Given as goal

abbrev pub invariant-loop-node : goal.invariant-loop-node
invariant-loop-node l =
    AllCome (ConstraintComes (scope_of l.lines) l.taken (pure_shows l.shows)) (map pure_node (take l.node-index l.nodes))
    (map (pure_ex (scope_of l.lines)) l.rules)
