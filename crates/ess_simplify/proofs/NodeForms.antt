-- What truth values and operators' nodes stand for.
use Rattle.std.proofs.Common.{◌≡◌, sym, ap, ◌∙◌, Bool, List}
use Rattle.ess_semantics.specs.Trees as pure
use Rattle.ess_semantics.specs.Trees.{truth_ex, node_ex}
use Rattle.ess_core.specs.TreeViews.{Item}
use Rattle.ess_core_nodes.specs.declared.words.Op.{Op}
use Rattle.ess_core_nodes.specs.declared.nodes.Node.{Node}
use Rattle.ess_core_nodes.specs.declared.nodes.Gen.TheOpen.{Node-F}
use Rattle.ess_core_nodes.specs.declared.nodes.Node.TheVariants as node
use Rattle.ess_core_nodes.specs.declared.nodes.Gen.TheFolds.{fold-roll-Node}
use Rattle.ess_core_nodes.specs.NodeViews.{gen_step, node_step, dom_step, seen_step, pure_node, pure_nodes, pure_op}

pub pure_truth : (b : Bool) → pure_node (node.Truth b) ≡ truth_ex b
pure_truth b =
    ap pure_node (sym (node.rolls-Truth b)) ∙ fold-roll-Node Item pure.Ex pure.Dom pure.Ex gen_step node_step dom_step seen_step (Node-F.Truth b)

pub pure_op_node : (b : Bool) (o : Op) (es : List Node) → pure_node (node.Op b o es) ≡ node_ex b (pure_op o) (pure_nodes es)
pure_op_node b o es =
    ap pure_node (sym (node.rolls-Op b o es)) ∙ fold-roll-Node Item pure.Ex pure.Dom pure.Ex gen_step node_step dom_step seen_step (Node-F.Op b o es)
