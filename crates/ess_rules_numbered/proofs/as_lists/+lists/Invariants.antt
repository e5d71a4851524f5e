use Rattle.std.proofs.Common.{◌≡◌, ◌+◌, map, take}
use Rattle.ess_core_nodes.specs.NodeViews.{pure_node, pure_nodes}
use Rattle.ess_guard_forms.proofs.Weights.{weight, weights}
use Rattle.ess_numbered_laws.specs.ListedPicks.{with_lists}
use Rattle.ess_rules_numbered.proofs.as_lists.+lists.Given as goal

abbrev pub invariant-lists_of_all-loop-term : goal.invariant-lists_of_all-loop-term
invariant-lists_of_all-loop-term l =
    map pure_node l.all ≡ map (with_lists l.one l.depth) (map pure_node (take l.term-index l.terms))

abbrev pub decreases-with_lists : goal.decreases-with_lists
decreases-with_lists l = 1 + weight (pure_node l.term.now)

abbrev pub decreases-within_items : goal.decreases-within_items
decreases-within_items l = weight (pure_node l.term.now)

abbrev pub decreases-each_with_lists : goal.decreases-each_with_lists
decreases-each_with_lists l = 2 + weights (pure_nodes l.terms.now)

abbrev pub decreases-lists_of_all : goal.decreases-lists_of_all
decreases-lists_of_all l = 1 + weights (pure_nodes l.terms.now)
