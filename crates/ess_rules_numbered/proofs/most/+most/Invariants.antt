use Rattle.std.proofs.Common.{◌≡◌, ◌+◌, [], ◌∷◌, map, drop}
use Rattle.ess_core.specs.TreeViews.{gens_of}
use Rattle.ess_core_nodes.specs.NodeViews.{pure_node, pure_nodes, pure_gen, pure_gens}
use Rattle.ess_guard_forms.proofs.Weights.{weight, weights, weight_gens}
use Rattle.ess_rules_ordered.proofs.NumberForms.{numbers_before}
use Rattle.ess_numbered_laws.specs.MostItems.{most_of_each}
use Rattle.ess_rules_numbered.specs.PickViews.{pure_pick}
use Rattle.ess_rules_numbered.proofs.most.+most.Given as goal

abbrev pub invariant-most_of_each-loop-item : goal.invariant-most_of_each-loop-item
invariant-most_of_each-loop-item l =
    numbers_before l.all (most_of_each l.one (map pure_pick l.path) (pure_nodes (drop l.item-index l.items)))
    ≡ most_of_each l.one (map pure_pick l.path) (pure_nodes l.items)

abbrev pub decreases-most : goal.decreases-most
decreases-most l = weight (pure_node l.term.now)

abbrev pub decreases-most_of_op : goal.decreases-most_of_op
decreases-most_of_op l = 5 + weights (pure_nodes l.operands.now)

abbrev pub decreases-most_of_first : goal.decreases-most_of_first
decreases-most_of_first l = 1 + weights (pure_nodes l.operands.now)

abbrev pub decreases-most_of_literal : goal.decreases-most_of_literal
decreases-most_of_literal l = 4 + weights (pure_nodes l.operands.now)

abbrev pub decreases-most_of_pairs : goal.decreases-most_of_pairs
decreases-most_of_pairs l = 2 + weights (pure_nodes l.operands.now)

abbrev pub decreases-most_of_list : goal.decreases-most_of_list
decreases-most_of_list l = 3 + weights (pure_nodes l.items.now)

abbrev pub decreases-most_of_matrix : goal.decreases-most_of_matrix
decreases-most_of_matrix l = 4 + weights (pure_nodes l.items.now)

abbrev pub decreases-most_of_comp : goal.decreases-most_of_comp
decreases-most_of_comp l = 5 + weight (pure_node l.body.now) + weight_gens (pure_gens l.gens.now)

abbrev pub decreases-most_summed : goal.decreases-most_summed
decreases-most_summed l = 1 + weights (pure_nodes l.items.now)

abbrev pub decreases-most_of_each : goal.decreases-most_of_each
decreases-most_of_each l = weights (pure_nodes l.items.now)

abbrev pub decreases-most_at : goal.decreases-most_at
decreases-most_at l = weights (pure_nodes l.items.now)

abbrev pub decreases-most_of_field : goal.decreases-most_of_field
decreases-most_of_field l = weights (pure_nodes l.items.now)

abbrev pub decreases-most_behind : goal.decreases-most_behind
decreases-most_behind l = 1 + weight_gens (pure_gens l.gens.now)

abbrev pub decreases-most_before : goal.decreases-most_before
decreases-most_before l = weight_gens (gens_of (pure_gen l.item.now ∷ []))
