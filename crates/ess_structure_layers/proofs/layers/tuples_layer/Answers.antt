use Rattle.std.proofs.Common.{map}
use Rattle.std.proofs.lemmas.Result.{IfOk-weaker}
use Rattle.ess_core.specs.TreeViews.{pure_repr}
use Rattle.ess_core_nodes.specs.NodeViews.{pure_node, pure_nodes, pure_dom}
use Rattle.ess_structure_terms.specs.ShapeViews.{pure_shapes}
use Rattle.ess_structure_layers.proofs.SameParts.{tuples_arm}
use Rattle.ess_structure_layers.proofs.layers.tuples_layer.Goals as goal

pub returns-in-Relation : goal.returns-in-Relation
returns-in-Relation c =
    IfOk-weaker c.tuples_over.result _ _
    (λ n h. tuples_arm (pure_node n) c.args.dom.now (pure_repr c.args.child.now) c.in-Relation.marks c.in-Relation.numbers
    c.in-Relation.parts c.args.level (pure_nodes c.args.at.now) (pure_shapes c.args.tables.now) (pure_node c.args.part) c.in-Relation.is h)
    c.tuples_over.ensures
