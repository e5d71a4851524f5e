use Rattle.std.proofs.Common.{◌≡◌, map, take}
use Rattle.ess_core_nodes.specs.NodeViews.{pure_node}
use Rattle.ess_rules_forms.specs.PureAlternatives.{pure_alternative}
use Rattle.ess_rules_alternatives.specs.Cases.{picked_from}
use Rattle.ess_rules_alternatives.proofs.picked.each_picked.Given as goal

abbrev pub invariant-loop-one : goal.invariant-loop-one
invariant-loop-one l =
    map pure_node l.all
    ≡ map (picked_from l.mark l.bound (pure_node l.body)) (map pure_alternative (take l.one-index l.offered))
