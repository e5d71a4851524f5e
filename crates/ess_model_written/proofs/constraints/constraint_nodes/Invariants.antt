use Rattle.std.proofs.Common.{◌≡◌, ◌++◌, map, drop}
use Rattle.ess_semantics.specs.Models.{constraints_of}
use Rattle.ess_core.specs.StatementViews.{pure_stm}
use Rattle.ess_core_nodes.specs.NodeViews.{pure_node}
use Rattle.ess_model_written.proofs.constraints.constraint_nodes.Given as goal

abbrev pub invariant-loop-stm : goal.invariant-loop-stm
invariant-loop-stm l = map pure_node l.nodes ++ constraints_of (map pure_stm (drop l.stm-index l.stms)) ≡ constraints_of (map pure_stm l.stms)
