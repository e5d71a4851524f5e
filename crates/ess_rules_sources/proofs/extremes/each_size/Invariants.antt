use Rattle.std.proofs.Common.{◌≡◌, map, take}
use Rattle.ess_core_nodes.specs.NodeViews.{pure_node}
use Rattle.ess_rules_forms.specs.PureAlternatives.{pure_alternative}
use Rattle.ess_rules_sources.specs.PureAlternatives.{item_size}
use Rattle.ess_rules_sources.proofs.extremes.each_size.Given as goal

abbrev pub invariant-loop-one : goal.invariant-loop-one
invariant-loop-one l = map pure_node l.all ≡ map item_size (map pure_alternative (take l.one-index l.offered))
