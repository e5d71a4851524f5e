use Rattle.std.proofs.Common.{◌≡◌, map, take}
use Rattle.ess_core_nodes.specs.NodeViews.{pure_dom}
use Rattle.ess_repr_declare_laws.specs.DeclaredTrees.{axis_dom}
use Rattle.ess_declared_trees.proofs.axes.axes_of.Given as goal

abbrev pub invariant-loop-dom : goal.invariant-loop-dom
invariant-loop-dom l = map pure_dom l.axes ≡ map axis_dom (map pure_dom (take l.dom-index l.doms))
