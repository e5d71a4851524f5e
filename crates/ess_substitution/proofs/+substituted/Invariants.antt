use Rattle.std.proofs.Common.{◌≡◌, map, take}
use Rattle.ess_semantics.specs.Substitution.{substitute, substitute_dom, for_name}
use Rattle.ess_core_nodes.specs.NodeViews.{pure_node, pure_gen, pure_dom}
use Rattle.ess_substitution.specs.Items.{substitute_item}
use Rattle.ess_substitution.proofs.+substituted.Given as goal

abbrev pub invariant-expressions::each_node-loop-node : goal.invariant-expressions::each_node-loop-node
invariant-expressions::each_node-loop-node l =
    map pure_node l.all ≡ map (substitute (for_name l.name (pure_node l.value))) (map pure_node (take l.node-index l.nodes))

abbrev pub invariant-generators::each_gen-loop-item : goal.invariant-generators::each_gen-loop-item
invariant-generators::each_gen-loop-item l =
    map pure_gen l.all ≡ map (substitute_item (for_name l.name (pure_node l.value))) (map pure_gen (take l.item-index l.gens))

abbrev pub invariant-domains::each_dom-loop-dom : goal.invariant-domains::each_dom-loop-dom
invariant-domains::each_dom-loop-dom l =
    map pure_dom l.all ≡ map (substitute_dom (for_name l.name (pure_node l.value))) (map pure_dom (take l.dom-index l.doms))
