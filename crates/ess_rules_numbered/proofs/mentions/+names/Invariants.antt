use Rattle.std.proofs.Common.{◌≡◌, map, drop}
use Rattle.ess_core_nodes.specs.NodeViews.{pure_nodes, pure_gen, pure_doms}
use Rattle.ess_rules_numbered.specs.NamedParts.{any_names, doms_name, any_item_names}
use Rattle.ess_rules_numbered.proofs.mentions.+names.Given as goal

abbrev pub invariant-any_names-loop-node : goal.invariant-any_names-loop-node
invariant-any_names-loop-node l = any_names l.name (pure_nodes l.nodes) ≡ any_names l.name (pure_nodes (drop l.node-index l.nodes))

abbrev pub invariant-any_gen_names-loop-item : goal.invariant-any_gen_names-loop-item
invariant-any_gen_names-loop-item l =
    any_item_names l.name (map pure_gen l.gens) ≡ any_item_names l.name (map pure_gen (drop l.item-index l.gens))

abbrev pub invariant-doms_name-loop-dom : goal.invariant-doms_name-loop-dom
invariant-doms_name-loop-dom l = doms_name l.name (pure_doms l.doms) ≡ doms_name l.name (pure_doms (drop l.dom-index l.doms))
