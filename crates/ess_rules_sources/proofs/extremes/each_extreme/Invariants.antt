use Rattle.std.proofs.Common.{◌≡◌, map, take}
use Rattle.ess_core_nodes.specs.NodeViews.{pure_node}
use Rattle.ess_refine_laws.specs.ExtremeAlternatives.{extreme_or}
use Rattle.ess_rules_forms.specs.PureAlternatives.{pure_alternative}
use Rattle.ess_rules_sources.proofs.extremes.each_extreme.Given as goal

abbrev pub invariant-loop-one : goal.invariant-loop-one
invariant-loop-one l =
    map pure_node l.all ≡ map (extreme_or l.fun (pure_node l.past)) (map pure_alternative (take l.one-index l.offered))
