use Rattle.std.proofs.Common.{map, drop}
use Rattle.ess_core_nodes.specs.NodeViews.{pure_node, pure_gen}
use Rattle.eprime_tree.specs.Views as P
use Rattle.eprime_read_convert.specs.Lines.{scope_of}
use Rattle.eprime_read_convert.proofs.Sweeps.{Sweep}
use Rattle.eprime_lowering.specs.Lowered.{lowered, lowered_item}
use Rattle.eprime_lowering.proofs.+lower.Given as goal

abbrev pub invariant-lowering::lower_all-loop-node : goal.invariant-lowering::lower_all-loop-node
invariant-lowering::lower_all-loop-node l =
    Sweep (lowered (scope_of l.lines)) (map (P.pure_ex (scope_of l.lines)) l.items)
    (map pure_node (drop l.node-index l.nodes)) (map pure_node l.nodes)

abbrev pub invariant-lists::lower_gens-loop-part : goal.invariant-lists::lower_gens-loop-part
invariant-lists::lower_gens-loop-part l =
    Sweep (lowered_item (scope_of l.lines)) (map (P.pure_gen (scope_of l.lines)) l.items)
    (map pure_gen (drop l.part-index l.gens)) (map pure_gen l.gens)
