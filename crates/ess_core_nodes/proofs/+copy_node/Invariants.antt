use Rattle.std.proofs.Common.{◌≡◌, take}
use Rattle.ess_core_nodes.proofs.+copy_node.Given as goal

abbrev pub invariant-copies::copy_nodes-loop-node : goal.invariant-copies::copy_nodes-loop-node
invariant-copies::copy_nodes-loop-node l = l.copies ≡ take l.node-index l.nodes

abbrev pub invariant-copies::copy_gens-loop-item : goal.invariant-copies::copy_gens-loop-item
invariant-copies::copy_gens-loop-item l = l.copies ≡ take l.item-index l.gens

abbrev pub invariant-copies::copy_doms-loop-dom : goal.invariant-copies::copy_doms-loop-dom
invariant-copies::copy_doms-loop-dom l = l.copies ≡ take l.dom-index l.doms
