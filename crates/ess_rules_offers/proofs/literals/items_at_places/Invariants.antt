use Rattle.std.proofs.Common.{◌≡◌, ◌++◌, map, drop}
use Rattle.ess_core_nodes.specs.NodeViews.{pure_node, pure_nodes, pure_dom}
use Rattle.ess_kind_rules_laws.specs.TermLookups.{items_at_places}
use Rattle.ess_rules_forms.specs.PureAlternatives.{pure_alternative}
use Rattle.ess_rules_offers.proofs.literals.items_at_places.Given as goal

abbrev pub invariant-loop-place : goal.invariant-loop-place
invariant-loop-place l =
    map pure_alternative l.all ++ items_at_places l.one (pure_dom l.dom) (pure_node l.index) l.place (pure_nodes (drop l.place l.items))
    ≡ items_at_places l.one (pure_dom l.dom) (pure_node l.index) 0 (pure_nodes l.items)
