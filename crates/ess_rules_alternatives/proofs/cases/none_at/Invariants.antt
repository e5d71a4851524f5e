use Rattle.std.proofs.Common.{◌≡◌, map, reverse, take}
use Rattle.ess_core_nodes.specs.NodeViews.{pure_node, pure_gens}
use Rattle.ess_rules_laws.specs.AlternativeLookups.{none_at}
use Rattle.ess_rules_alternatives.proofs.cases.none_at.Given as goal

abbrev pub invariant-loop-other : goal.invariant-loop-other
invariant-loop-other l =
    pure_gens l.gens ≡ none_at (reverse (map pure_node (take l.other-index l.before))) (pure_node l.argument) (pure_node l.term)
