use Rattle.std.proofs.Common.{drop}
use Rattle.ess_core_nodes.specs.NodeViews.{pure_nodes, pure_gens, pure_doms}
use Rattle.ess_node_types.specs.TypedNames.{pure_names}
use Rattle.ess_refine.specs.Settled.{AllSettled, GensSettled, DomsSettled}
use Rattle.ess_refine.proofs.+rests.Given as goal

abbrev pub invariant-resting::all_rest-loop-node : goal.invariant-resting::all_rest-loop-node
invariant-resting::all_rest-loop-node l =
    AllSettled l.next (pure_names l.names) (pure_nodes (drop l.node-index l.nodes))
    → AllSettled l.next (pure_names l.names) (pure_nodes l.nodes)

abbrev pub invariant-resting_domains::doms_rest-loop-dom : goal.invariant-resting_domains::doms_rest-loop-dom
invariant-resting_domains::doms_rest-loop-dom l =
    DomsSettled l.next (pure_names l.names) (pure_doms (drop l.dom-index l.doms))
    → DomsSettled l.next (pure_names l.names) (pure_doms l.doms)

abbrev pub invariant-resting_generators::gens_rest-loop-item : goal.invariant-resting_generators::gens_rest-loop-item
invariant-resting_generators::gens_rest-loop-item l =
    GensSettled l.next (pure_names l.under) (pure_gens (drop l.item-index l.gens))
    → GensSettled l.next (pure_names l.names) (pure_gens l.gens)
