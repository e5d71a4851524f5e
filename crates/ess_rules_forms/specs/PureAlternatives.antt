-- What a term offers, in the code: generators with an item.
use Rattle.ess_core_nodes.specs.NodeViews.{pure_node, pure_gens}
use Rattle.ess_rules_laws.specs.Listings as listings
use Rattle.ess_rules_forms.specs.declared.alternatives.Alternative.{Alternative}

-- What an alternative of the code stands for.
abbrev pub pure_alternative : Alternative → listings.Alternative
pure_alternative a = record { gens = pure_gens a.gens; item = pure_node a.item }
