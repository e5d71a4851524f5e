use Rattle.std.proofs.Common.{◌≡◌, map, take}
use Rattle.ess_core_nodes.specs.NodeViews.{pure_node}
use Rattle.ess_rules_forms.specs.PureAlternatives.{pure_alternative}
use Rattle.ess_rules_alternatives.specs.Cases.{put_through}
use Rattle.ess_rules_ordered.proofs.picked.each_over.Given as goal

abbrev pub invariant-loop-offer : goal.invariant-loop-offer
invariant-loop-offer l =
    map pure_alternative l.all ≡ map (put_through l.one (pure_node l.item)) (map pure_alternative (take l.offer-index l.offered))
