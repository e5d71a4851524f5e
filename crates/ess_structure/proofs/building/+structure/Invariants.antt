use Rattle.std.proofs.Common.{◌≡◌, ◌-◌, map, drop, length}
use Rattle.ess_core_nodes.specs.NodeViews.{pure_node, pure_nodes}
use Rattle.ess_structure.specs.Together.{together}
use Rattle.ess_structure.proofs.ComponentSteps.{structures_from}
use Rattle.ess_structure.proofs.building.+structure.Given as goal

abbrev pub invariant-parts_of_each-loop-i : goal.invariant-parts_of_each-loop-i
invariant-parts_of_each-loop-i l =
    together (map pure_node l.all) (structures_from (drop l.i l.children) (drop l.i l.parts) l.rest l.level (pure_nodes l.at))
    ≡ structures_from l.children l.parts l.names l.level (pure_nodes l.at)

abbrev pub decreases-parts_of_each-loop-i : goal.decreases-parts_of_each-loop-i
decreases-parts_of_each-loop-i l = length l.children - l.i
