use Rattle.std.proofs.Common.{map}
use Rattle.std.proofs.lemmas.Result.{IfOk-weaker}
use Rattle.ess_core.specs.TreeViews.{pure_repr}
use Rattle.ess_core_nodes.specs.NodeViews.{pure_node, pure_nodes, pure_dom}
use Rattle.ess_structure_terms.specs.ShapeViews.{pure_shapes}
use Rattle.ess_structure_layers.proofs.SameParts.{partial_arm}
use Rattle.ess_structure_layers.proofs.layers.partial_layer.Goals as goal

pub returns-in-Function : goal.returns-in-Function
returns-in-Function c =
    IfOk-weaker c.partial_over.result _ _
    (λ n h. partial_arm (pure_node n) c.args.dom.now c.args.kind (pure_repr c.args.child.now) c.in-Function.marks c.in-Function.numbers
    c.in-Function.from c.in-Function.to c.args.names.now c.args.level (pure_nodes c.args.at.now) (map pure_dom c.args.axes.now)
    (pure_shapes c.args.tables.now) (pure_node c.args.part) c.in-Function.is h) c.partial_over.ensures
