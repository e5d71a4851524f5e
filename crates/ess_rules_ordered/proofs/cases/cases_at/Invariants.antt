use Rattle.std.proofs.Common.{◌≡◌, ◌++◌, map, drop, option_map}
use Rattle.ess_core_nodes.specs.NodeViews.{pure_node}
use Rattle.ess_rules_forms.specs.PureAlternatives.{pure_alternative}
use Rattle.ess_ordered_laws.specs.ToldAxes.{cases_at}
use Rattle.ess_rules_ordered.proofs.cases.cases_at.Given as goal

abbrev pub invariant-loop-one : goal.invariant-loop-one
invariant-loop-one l =
    option_map (λ m. map pure_alternative l.all ++ m) (cases_at (pure_node l.at) (map pure_alternative (drop l.one-index l.found)))
    ≡ cases_at (pure_node l.at) (map pure_alternative l.found)
