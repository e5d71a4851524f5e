use Rattle.std.proofs.Common.{◌≡◌, map, drop}
use Rattle.ess_core_nodes.specs.NodeViews.{pure_nodes, pure_dom}
use Rattle.ess_repr_laws.specs.StructureParts.{row_index}
use Rattle.conjure_model_laws.specs.ToldApart.{reserved}
use Rattle.ess_structure_terms.proofs.indices.row_index.Given as goal

abbrev pub invariant-loop-axis : goal.invariant-loop-axis
invariant-loop-axis l =
    row_index reserved l.next (map pure_dom (drop l._axis-index l.axes)) (pure_nodes l.index)
    ≡ row_index reserved l.level (map pure_dom l.axes) (pure_nodes l.at)
