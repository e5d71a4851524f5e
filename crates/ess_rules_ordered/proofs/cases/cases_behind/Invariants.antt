use Rattle.std.proofs.Common.{◌≡◌, ◌+◌, ◌++◌, map, drop}
use Rattle.ess_core_nodes.specs.NodeViews.{pure_node, pure_nodes, pure_gens}
use Rattle.ess_rules_forms.specs.PureAlternatives.{pure_alternative}
use Rattle.ess_ordered_laws.specs.ToldAxes.{cases_behind}
use Rattle.ess_rules_ordered.proofs.cases.cases_behind.Given as goal

abbrev pub invariant-loop-place : goal.invariant-loop-place
invariant-loop-place l =
    map pure_alternative l.all ++ cases_behind (pure_gens l.gens) (l.place + 1) (pure_node l.at) (pure_nodes (drop l.place l.items))
    ≡ cases_behind (pure_gens l.gens) 1 (pure_node l.at) (pure_nodes l.items)
