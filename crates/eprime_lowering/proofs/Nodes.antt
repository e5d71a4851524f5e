-- What the forms of nodes stand for that are lowered.
use Rattle.std.proofs.Common.{◌≡◌, sym, ap, ◌∙◌, Bool, List, map}
use Rattle.ess_semantics.specs.Values.{Text}
use Rattle.ess_semantics.specs.Trees as pure
use Rattle.ess_semantics.specs.Trees.{node_ex, comp_ex, cell_ex, int_dom}
use Rattle.ess_core.specs.TreeViews.{Item, exs_of, gens_of}
use Rattle.ess_core_nodes.specs.declared.words.Op.{Op}
use Rattle.ess_core_nodes.specs.declared.words.Ends.{Ends}
use Rattle.ess_core_nodes.specs.declared.nodes.Node.{Node}
use Rattle.ess_core_nodes.specs.declared.nodes.Gen.{Gen}
use Rattle.ess_core_nodes.specs.declared.nodes.Gen.TheOpen.{Node-F, NodeDom-F}
use Rattle.ess_core_nodes.specs.declared.nodes.Node.TheVariants as node
use Rattle.ess_core_nodes.specs.declared.nodes.NodeDom.TheVariants as dom
use Rattle.ess_core_nodes.specs.declared.nodes.Gen.TheFolds.{fold-roll-Node, fold-roll-NodeDom}
use Rattle.ess_core_nodes.proofs.NodeEquations.{pure_gen_over, pure_gen_from, pure_gen_if}
use Rattle.ess_core_nodes.specs.NodeViews.{gen_step, node_step, dom_step, seen_step, pure_op, pure_ends, pure_node, pure_gen, pure_dom}

-- An operator.
pub node_is : (b : Bool) (o : Op) (es : List Node) → pure_node (node.Op b o es) ≡ node_ex b (pure_op o) (exs_of (map pure_node es))
node_is b o es =
    ap pure_node (sym (node.rolls-Op b o es)) ∙ fold-roll-Node Item pure.Ex pure.Dom pure.Ex gen_step node_step dom_step seen_step
    (Node-F.Op b o es)

-- A comprehension.
pub comp_is : (e : Node) (gs : List Gen) → pure_node (node.Comp e gs) ≡ comp_ex (pure_node e) (gens_of (map pure_gen gs))
comp_is e gs =
    ap pure_node (sym (node.rolls-Comp e gs)) ∙ fold-roll-Node Item pure.Ex pure.Dom pure.Ex gen_step node_step dom_step seen_step
    (Node-F.Comp e gs)

-- A cell.
pub cell_is : (b : Bool) (a : Text) (es : List Node) → pure_node (node.Cell b a es) ≡ cell_ex b a (exs_of (map pure_node es))
cell_is b a es =
    ap pure_node (sym (node.rolls-Cell b a es)) ∙ fold-roll-Node Item pure.Ex pure.Dom pure.Ex gen_step node_step dom_step seen_step
    (Node-F.Cell b a es)

-- An int domain.
pub int_is : (rs : List Ends) (es : List Node) → pure_dom (dom.Int rs es) ≡ int_dom (map pure_ends rs) (exs_of (map pure_node es))
int_is rs es =
    ap pure_dom (sym (dom.rolls-Int rs es)) ∙ fold-roll-NodeDom Item pure.Ex pure.Dom pure.Ex gen_step node_step dom_step seen_step
    (NodeDom-F.Int rs es)

-- Generators and conditions.
pub ruleset gen_equations = (pure_gen_over, pure_gen_from, pure_gen_if)
