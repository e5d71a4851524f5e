use Rattle.std.proofs.Common.{◌≡◌, ◌++◌, map, drop}
use Rattle.ess_core_nodes.specs.NodeViews.{pure_dom, pure_gen}
use Rattle.ess_structure_terms.specs.RowItems.{row_items}
use Rattle.ess_structure_terms.proofs.indices.row_items.Given as goal

abbrev pub invariant-loop-axis : goal.invariant-loop-axis
invariant-loop-axis l = map pure_gen l.gens ++ row_items l.next (map pure_dom (drop l.axis-index l.axes)) ≡ row_items l.level (map pure_dom l.axes)
