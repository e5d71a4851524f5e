use Rattle.std.proofs.Common.{◌≡◌, ◌++◌, map, drop}
use Rattle.ess_core_nodes.specs.NodeViews.{pure_node, pure_nodes}
use Rattle.ess_guard_laws.specs.Conditions.{have_members}
use Rattle.ess_guard_conditions.proofs.literals.have_members.Given as goal

abbrev pub invariant-loop-part : goal.invariant-loop-part
invariant-loop-part l = map pure_node l.conditions ++ have_members l.x (pure_nodes (drop l.part-index l.parts))
    ≡ have_members l.x (pure_nodes l.parts)
