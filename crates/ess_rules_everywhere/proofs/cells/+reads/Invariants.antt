use Rattle.std.proofs.Common.{◌≡◌, map, drop}
use Rattle.ess_core_nodes.specs.NodeViews.{pure_nodes, pure_gen, pure_doms}
use Rattle.ess_rules_everywhere.specs.TableParts.{any_reads, doms_read, any_item_reads}
use Rattle.ess_rules_everywhere.proofs.cells.+reads.Given as goal

abbrev pub invariant-any_reads-loop-node : goal.invariant-any_reads-loop-node
invariant-any_reads-loop-node l = any_reads (pure_nodes l.nodes) ≡ any_reads (pure_nodes (drop l.node-index l.nodes))

abbrev pub invariant-any_gen_reads-loop-item : goal.invariant-any_gen_reads-loop-item
invariant-any_gen_reads-loop-item l = any_item_reads (map pure_gen l.gens) ≡ any_item_reads (map pure_gen (drop l.item-index l.gens))

abbrev pub invariant-doms_read-loop-dom : goal.invariant-doms_read-loop-dom
invariant-doms_read-loop-dom l = doms_read (pure_doms l.doms) ≡ doms_read (pure_doms (drop l.dom-index l.doms))
