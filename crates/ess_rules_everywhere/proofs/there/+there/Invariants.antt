use Rattle.std.proofs.Common.{◌≡◌, map, take}
use Rattle.ess_core_nodes.specs.NodeViews.{pure_node, pure_gen}
use Rattle.ess_rules_everywhere.specs.ThereParts.{there, list_there, item_there}
use Rattle.ess_rules_everywhere.proofs.there.+there.Given as goal

abbrev pub invariant-each_there-loop-node : goal.invariant-each_there-loop-node
invariant-each_there-loop-node l = map pure_node l.all ≡ map there (map pure_node (take l.node-index l.nodes))

abbrev pub invariant-each_list_there-loop-list : goal.invariant-each_list_there-loop-list
invariant-each_list_there-loop-list l = map pure_node l.all ≡ map list_there (map pure_node (take l.list-index l.lists))

abbrev pub invariant-each_gen_there-loop-item : goal.invariant-each_gen_there-loop-item
invariant-each_gen_there-loop-item l = map pure_gen l.all ≡ map item_there (map pure_gen (take l.item-index l.gens))
