use Rattle.std.proofs.Common.{◌≡◌, ◌+◌, ◌++◌, map, drop}
use Rattle.ess_core_nodes.specs.NodeViews.{pure_node, pure_nodes}
use Rattle.ess_rules_laws.specs.AlternativeLookups.{numbered_items}
use Rattle.ess_rules_forms.specs.PureAlternatives.{pure_alternative}
use Rattle.ess_rules_alternatives.proofs.numbers.numbered_items.Given as goal

abbrev pub invariant-loop-place : goal.invariant-loop-place
invariant-loop-place l =
    map pure_alternative l.all ++ numbered_items (l.place + 1) (pure_node l.index) (pure_nodes (drop l.place l.items))
    ≡ numbered_items 1 (pure_node l.index) (pure_nodes l.items)
