-- What nodes and domains stand for, form by form.
use Rattle.std.proofs.Common.{◌≡◌, sym, ap, ◌∙◌, Bool, ℤ, List, map}
use Rattle.ess_semantics.specs.Values.{Text}
use Rattle.ess_semantics.specs.Trees as pure
use Rattle.ess_semantics.specs.Trees.{number_ex, truth_ex, name_ex, node_ex, matrix_ex, comp_ex, cell_ex, seen_ex, bool_dom, int_dom, name_dom, tuple_dom, record_dom, matrix_dom, set_dom, mset_dom, function_dom, relation_dom, partition_dom}
use Rattle.ess_core.specs.TreeViews.{pure_repr, Item}
use Rattle.ess_core.specs.declared.representations.Repr.{Repr}
use Rattle.ess_core_nodes.specs.declared.words.Op.{Op}
use Rattle.ess_core_nodes.specs.declared.words.Ends.{Ends}
use Rattle.ess_core_nodes.specs.declared.words.Mark.{Mark}
use Rattle.ess_core_nodes.specs.declared.nodes.Node.{Node}
use Rattle.ess_core_nodes.specs.declared.nodes.Gen.{Gen}
use Rattle.ess_core_nodes.specs.declared.nodes.NodeDom.{NodeDom}
use Rattle.ess_core_nodes.specs.declared.nodes.Seen.{Seen, roll-Seen}
use Rattle.ess_core_nodes.specs.declared.nodes.Gen.TheOpen.{Node-F, NodeDom-F}
use Rattle.ess_core_nodes.specs.declared.nodes.Node.TheVariants as node
use Rattle.ess_core_nodes.specs.declared.nodes.NodeDom.TheVariants as dom
use Rattle.ess_core_nodes.specs.declared.nodes.Gen.TheFolds.{fold-roll-Node, fold-roll-NodeDom, fold-roll-Seen}
use Rattle.ess_core_nodes.specs.NodeViews.{gen_step, node_step, dom_step, seen_step, pure_node, pure_nodes, pure_gens, pure_dom, pure_doms, pure_seen, pure_op, pure_ends, pure_mark}

pub pure_number : (k : ℤ) → pure_node (node.Number k) ≡ number_ex k
pure_number k =
    ap pure_node (sym (node.rolls-Number k))
    ∙ fold-roll-Node Item pure.Ex pure.Dom pure.Ex gen_step node_step dom_step seen_step (Node-F.Number k)

pub pure_truth : (b : Bool) → pure_node (node.Truth b) ≡ truth_ex b
pure_truth b =
    ap pure_node (sym (node.rolls-Truth b))
    ∙ fold-roll-Node Item pure.Ex pure.Dom pure.Ex gen_step node_step dom_step seen_step (Node-F.Truth b)

pub pure_name : (a : Text) → pure_node (node.Name a) ≡ name_ex a
pure_name a =
    ap pure_node (sym (node.rolls-Name a))
    ∙ fold-roll-Node Item pure.Ex pure.Dom pure.Ex gen_step node_step dom_step seen_step (Node-F.Node::Name a)

pub pure_operator : (b : Bool) (op : Op) (es : List Node) → pure_node (node.Op b op es) ≡ node_ex b (pure_op op) (pure_nodes es)
pure_operator b op es =
    ap pure_node (sym (node.rolls-Op b op es))
    ∙ fold-roll-Node Item pure.Ex pure.Dom pure.Ex gen_step node_step dom_step seen_step (Node-F.Op b op es)

pub pure_matrix_on : (es : List Node) (d : NodeDom) → pure_node (node.MatrixOn es d) ≡ matrix_ex (pure_nodes es) (pure_dom d)
pure_matrix_on es d =
    ap pure_node (sym (node.rolls-MatrixOn es d))
    ∙ fold-roll-Node Item pure.Ex pure.Dom pure.Ex gen_step node_step dom_step seen_step (Node-F.MatrixOn es d)

pub pure_comprehension : (e : Node) (gs : List Gen) → pure_node (node.Comp e gs) ≡ comp_ex (pure_node e) (pure_gens gs)
pure_comprehension e gs =
    ap pure_node (sym (node.rolls-Comp e gs))
    ∙ fold-roll-Node Item pure.Ex pure.Dom pure.Ex gen_step node_step dom_step seen_step (Node-F.Comp e gs)

pub pure_cell : (b : Bool) (a : Text) (es : List Node) → pure_node (node.Cell b a es) ≡ cell_ex b a (pure_nodes es)
pure_cell b a es =
    ap pure_node (sym (node.rolls-Cell b a es))
    ∙ fold-roll-Node Item pure.Ex pure.Dom pure.Ex gen_step node_step dom_step seen_step (Node-F.Cell b a es)

pub pure_view : (v : Seen) → pure_node (node.Seen v) ≡ pure_seen v
pure_view v =
    ap pure_node (sym (node.rolls-Seen v))
    ∙ fold-roll-Node Item pure.Ex pure.Dom pure.Ex gen_step node_step dom_step seen_step (Node-F.Seen v)

-- A view that is made of these parts.
pub pure_made : (r : Repr) (d : NodeDom) (xs : List Text) (es : List Node)
    → pure_seen (roll-Seen record { repr = r; dom = d; cells = xs; at = es }) ≡ seen_ex (pure_repr r) (pure_dom d) xs (pure_nodes es)
pure_made r d xs es = fold-roll-Seen Item pure.Ex pure.Dom pure.Ex gen_step node_step dom_step seen_step
    record { repr = r; dom = d; cells = xs; at = es }

pub pure_bool : pure_dom dom.Bool ≡ bool_dom
pure_bool =
    ap pure_dom (sym dom.rolls-Bool)
    ∙ fold-roll-NodeDom Item pure.Ex pure.Dom pure.Ex gen_step node_step dom_step seen_step NodeDom-F.Bool

pub pure_named : (a : Text) → pure_dom (dom.Name a) ≡ name_dom a
pure_named a =
    ap pure_dom (sym (dom.rolls-Name a))
    ∙ fold-roll-NodeDom Item pure.Ex pure.Dom pure.Ex gen_step node_step dom_step seen_step (NodeDom-F.NodeDom::Name a)

pub pure_int : (rs : List Ends) (es : List Node) → pure_dom (dom.Int rs es) ≡ int_dom (map pure_ends rs) (pure_nodes es)
pure_int rs es =
    ap pure_dom (sym (dom.rolls-Int rs es))
    ∙ fold-roll-NodeDom Item pure.Ex pure.Dom pure.Ex gen_step node_step dom_step seen_step (NodeDom-F.Int rs es)

pub pure_tuple : (ds : List NodeDom) → pure_dom (dom.Tuple ds) ≡ tuple_dom (pure_doms ds)
pure_tuple ds =
    ap pure_dom (sym (dom.rolls-Tuple ds))
    ∙ fold-roll-NodeDom Item pure.Ex pure.Dom pure.Ex gen_step node_step dom_step seen_step (NodeDom-F.Tuple ds)

pub pure_record : (fs : List Text) (ds : List NodeDom) → pure_dom (dom.Record fs ds) ≡ record_dom fs (pure_doms ds)
pure_record fs ds =
    ap pure_dom (sym (dom.rolls-Record fs ds))
    ∙ fold-roll-NodeDom Item pure.Ex pure.Dom pure.Ex gen_step node_step dom_step seen_step (NodeDom-F.Record fs ds)

pub pure_matrix : (is : List NodeDom) (d : NodeDom) → pure_dom (dom.Matrix is d) ≡ matrix_dom (pure_doms is) (pure_dom d)
pure_matrix is d =
    ap pure_dom (sym (dom.rolls-Matrix is d))
    ∙ fold-roll-NodeDom Item pure.Ex pure.Dom pure.Ex gen_step node_step dom_step seen_step (NodeDom-F.Matrix is d)

pub pure_set : (ms : List Mark) (es : List Node) (d : NodeDom)
    → pure_dom (dom.Set ms es d) ≡ set_dom (map pure_mark ms) (pure_nodes es) (pure_dom d)
pure_set ms es d =
    ap pure_dom (sym (dom.rolls-Set ms es d))
    ∙ fold-roll-NodeDom Item pure.Ex pure.Dom pure.Ex gen_step node_step dom_step seen_step (NodeDom-F.Set ms es d)

pub pure_mset : (ms : List Mark) (es : List Node) (d : NodeDom)
    → pure_dom (dom.MSet ms es d) ≡ mset_dom (map pure_mark ms) (pure_nodes es) (pure_dom d)
pure_mset ms es d =
    ap pure_dom (sym (dom.rolls-MSet ms es d))
    ∙ fold-roll-NodeDom Item pure.Ex pure.Dom pure.Ex gen_step node_step dom_step seen_step (NodeDom-F.MSet ms es d)

pub pure_function : (ms : List Mark) (es : List Node) (d e : NodeDom)
    → pure_dom (dom.Function ms es d e) ≡ function_dom (map pure_mark ms) (pure_nodes es) (pure_dom d) (pure_dom e)
pure_function ms es d e =
    ap pure_dom (sym (dom.rolls-Function ms es d e))
    ∙ fold-roll-NodeDom Item pure.Ex pure.Dom pure.Ex gen_step node_step dom_step seen_step (NodeDom-F.Function ms es d e)

pub pure_relation : (ms : List Mark) (es : List Node) (ds : List NodeDom)
    → pure_dom (dom.Relation ms es ds) ≡ relation_dom (map pure_mark ms) (pure_nodes es) (pure_doms ds)
pure_relation ms es ds =
    ap pure_dom (sym (dom.rolls-Relation ms es ds))
    ∙ fold-roll-NodeDom Item pure.Ex pure.Dom pure.Ex gen_step node_step dom_step seen_step (NodeDom-F.Relation ms es ds)

pub pure_partition : (ms : List Mark) (es : List Node) (d : NodeDom)
    → pure_dom (dom.Partition ms es d) ≡ partition_dom (map pure_mark ms) (pure_nodes es) (pure_dom d)
pure_partition ms es d =
    ap pure_dom (sym (dom.rolls-Partition ms es d))
    ∙ fold-roll-NodeDom Item pure.Ex pure.Dom pure.Ex gen_step node_step dom_step seen_step (NodeDom-F.Partition ms es d)
