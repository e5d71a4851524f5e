use Rattle.std.proofs.Common.{◌≡◌, ◌++◌, map, drop}
use Rattle.ess_core_nodes.specs.NodeViews.{pure_node, pure_nodes}
use Rattle.ess_guard_laws.specs.Conditions.{agree_all}
use Rattle.ess_guard_conditions.proofs.literals.agree_all.Given as goal

abbrev pub invariant-loop-other : goal.invariant-loop-other
invariant-loop-other l = map pure_node l.conditions ++ agree_all (pure_node l.pair) (pure_nodes (drop l.other-index l.others))
    ≡ agree_all (pure_node l.pair) (pure_nodes l.others)
