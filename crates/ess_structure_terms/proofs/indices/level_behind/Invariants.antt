use Rattle.std.proofs.Common.{◌≡◌, map, drop}
use Rattle.ess_core_nodes.specs.NodeViews.{pure_dom}
use Rattle.ess_repr_laws.specs.StructureParts.{level_behind}
use Rattle.ess_structure_terms.proofs.indices.level_behind.Given as goal

abbrev pub invariant-loop-axis : goal.invariant-loop-axis
invariant-loop-axis l = level_behind l.next (map pure_dom (drop l._axis-index l.axes)) ≡ level_behind l.level (map pure_dom l.axes)
