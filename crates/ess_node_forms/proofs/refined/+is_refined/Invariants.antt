use Rattle.std.proofs.Common.{◌≡◌, drop}
use Rattle.ess_semantics.specs.Refined.{are_refined, are_refined_lists, are_refined_gens}
use Rattle.ess_core_nodes.specs.NodeViews.{pure_nodes, pure_gens}
use Rattle.ess_node_forms.proofs.refined.+is_refined.Given as goal

abbrev pub invariant-are_refined-loop-node : goal.invariant-are_refined-loop-node
invariant-are_refined-loop-node l = are_refined (pure_nodes l.nodes) ≡ are_refined (pure_nodes (drop l.node-index l.nodes))

abbrev pub invariant-are_refined_lists-loop-node : goal.invariant-are_refined_lists-loop-node
invariant-are_refined_lists-loop-node l =
    are_refined_lists (pure_nodes l.nodes) ≡ are_refined_lists (pure_nodes (drop l.node-index l.nodes))

abbrev pub invariant-are_refined_gens-loop-item : goal.invariant-are_refined_gens-loop-item
invariant-are_refined_gens-loop-item l = are_refined_gens (pure_gens l.gens) ≡ are_refined_gens (pure_gens (drop l.item-index l.gens))
