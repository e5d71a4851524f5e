use Rattle.std.proofs.Common.{◌≡◌, ◌-◌, ◌++◌, map, drop, length}
use Rattle.ess_core_nodes.specs.NodeViews.{pure_dom}
use Rattle.ess_declared_trees.specs.TableViews.{pure_declared}
use Rattle.ess_declared_trees.proofs.ChildSteps.{left_trees}
use Rattle.ess_declared_trees.proofs.trees.+trees.Given as goal

abbrev pub invariant-trees_of_children-loop-i : goal.invariant-trees_of_children-loop-i
invariant-trees_of_children-loop-i l =
    map pure_declared l.all ++ left_trees l.out (drop l.i l.children) (drop l.i l.names) (drop l.i l.doms) (map pure_dom l.axes)
    ≡ left_trees l.out l.children l.names l.doms (map pure_dom l.axes)

abbrev pub decreases-trees_of_children-loop-i : goal.decreases-trees_of_children-loop-i
decreases-trees_of_children-loop-i l = length l.children - l.i
