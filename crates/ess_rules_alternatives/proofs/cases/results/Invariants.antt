use Rattle.std.proofs.Common.{◌≡◌, [], ◌++◌, map, reverse, length, option_map}
use Rattle.ess_core_nodes.specs.NodeViews.{pure_node, pure_nodes}
use Rattle.ess_rules_laws.specs.AlternativeLookups.{first_results}
use Rattle.ess_rules_forms.specs.PureAlternatives.{pure_alternative}
use Rattle.ess_rules_alternatives.proofs.cases.results.Given as goal

abbrev pub invariant-loop-pair : goal.invariant-loop-pair
invariant-loop-pair l =
    option_map (λ m. map pure_alternative l.all ++ m)
    (first_results (reverse (map pure_node l.before)) (pure_node l.term) (pure_nodes l.rest))
    ≡ first_results [] (pure_node l.term) (pure_nodes l.pairs)

abbrev pub decreases-loop-pair : goal.decreases-loop-pair
decreases-loop-pair l = length l.rest
