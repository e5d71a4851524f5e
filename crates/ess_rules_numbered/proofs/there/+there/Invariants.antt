use Rattle.std.proofs.Common.{◌≡◌, map, drop}
use Rattle.ess_core_nodes.specs.NodeViews.{pure_nodes, pure_gen, pure_doms}
use Rattle.ess_numbered_laws.specs.ThereByForm.{are_there, doms_there}
use Rattle.ess_rules_numbered.specs.ThereForms.{items_there}
use Rattle.ess_rules_numbered.proofs.there.+there.Given as goal

abbrev pub invariant-are_there-loop-node : goal.invariant-are_there-loop-node
invariant-are_there-loop-node l = are_there (pure_nodes l.nodes) ≡ are_there (pure_nodes (drop l.node-index l.nodes))

abbrev pub invariant-all_gens_there-loop-item : goal.invariant-all_gens_there-loop-item
invariant-all_gens_there-loop-item l = items_there (map pure_gen l.gens) ≡ items_there (map pure_gen (drop l.item-index l.gens))

abbrev pub invariant-doms_there-loop-dom : goal.invariant-doms_there-loop-dom
invariant-doms_there-loop-dom l = doms_there (pure_doms l.doms) ≡ doms_there (pure_doms (drop l.dom-index l.doms))
