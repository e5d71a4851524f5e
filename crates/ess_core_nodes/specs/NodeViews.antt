-- The pure trees that nodes stand for: each form of a node is one of the definitions.
use Rattle.std.specs.Prelude.{Bool, true, false, List, [], ◌∷◌, map}
use Rattle.ess_semantics.specs.Values.{Text}
use Rattle.ess_semantics.specs.Trees as pure
use Rattle.ess_semantics.specs.Trees.{by_value, to_component, to_field, unary, binary, word, index, application, tuple_literal, set_literal, mset_literal, function_literal, relation_literal, partition_literal, matrix_literal, record_literal, one_value, both_ends, low_end, high_end, flag, valued, number_ex, truth_ex, name_ex, node_ex, matrix_ex, comp_ex, cell_ex, seen_ex, bool_dom, int_dom, name_dom, tuple_dom, record_dom, matrix_dom, set_dom, mset_dom, function_dom, relation_dom, partition_dom}
use Rattle.ess_semantics.specs.Kinds.{doms_of}
use Rattle.ess_core.specs.TreeViews.{pure_repr, pure_pat, Item, over_item, from_item, cond_item, exs_of, gens_of}
use Rattle.ess_core_nodes.specs.declared.words.Step.{Step}
use Rattle.ess_core_nodes.specs.declared.words.Op.{Op}
use Rattle.ess_core_nodes.specs.declared.words.Ends.{Ends}
use Rattle.ess_core_nodes.specs.declared.words.Mark.{Mark}
use Rattle.ess_core_nodes.specs.declared.nodes.Node.{Node}
use Rattle.ess_core_nodes.specs.declared.nodes.Gen.{Gen}
use Rattle.ess_core_nodes.specs.declared.nodes.NodeDom.{NodeDom}
use Rattle.ess_core_nodes.specs.declared.nodes.Seen.{Seen}
use Rattle.ess_core_nodes.specs.declared.nodes.Gen.TheOpen.{Gen-F, Node-F, NodeDom-F, Seen-F}
use Rattle.ess_core_nodes.specs.declared.nodes.Gen.TheFolds.{fold-Gen, fold-Node, fold-NodeDom, fold-Seen}

-- ---- words

-- A step of an index.
abbrev pub pure_step : Step → pure.Step
pure_step Step.Value = by_value
pure_step (Step.Component k) = to_component k
pure_step (Step.Field a) = to_field a

-- What stands at an operator's node.
abbrev pub pure_op : Op → pure.Op
pure_op (Op.Unary o) = unary o
pure_op (Op.Binary o) = binary o
pure_op (Op.Word f) = word f
pure_op (Op.Index ss) = index (map pure_step ss)
pure_op Op.Apply = application
pure_op Op.Tuple = tuple_literal
pure_op Op.Set = set_literal
pure_op Op.MSet = mset_literal
pure_op Op.Function = function_literal
pure_op Op.Relation = relation_literal
pure_op Op.Partition = partition_literal
pure_op Op.Matrix = matrix_literal
pure_op (Op.Record fs) = record_literal fs

-- The form of a range.
abbrev pub pure_ends : Ends → pure.Ends
pure_ends Ends.One = one_value
pure_ends Ends.Both = both_ends
pure_ends Ends.Low = low_end
pure_ends Ends.High = high_end

-- An attribute without its number.
abbrev pub pure_mark : Mark → pure.Mark
pure_mark (Mark.Flag k) = flag k
pure_mark (Mark.Valued k) = valued k

-- ---- one layer of each

abbrev pub Level : (Type 0 → Type 0 → Type 0 → Type 0 → Type 0) → Type 0
Level F = F Item pure.Ex pure.Dom pure.Ex

abbrev pub node_step : Level Node-F → pure.Ex
node_step (Node-F.Number n) = number_ex n
node_step (Node-F.Truth b) = truth_ex b
node_step (Node-F.Node::Name a) = name_ex a
node_step (Node-F.Op b o es) = node_ex b (pure_op o) (exs_of es)
node_step (Node-F.MatrixOn es d) = matrix_ex (exs_of es) d
node_step (Node-F.Comp e gs) = comp_ex e (gens_of gs)
node_step (Node-F.Cell b n es) = cell_ex b n (exs_of es)
node_step (Node-F.Seen v) = v

abbrev pub gen_step : Level Gen-F → Item
gen_step (Gen-F.Over p d) = over_item (pure_pat p) d
gen_step (Gen-F.From p e) = from_item (pure_pat p) e
gen_step (Gen-F.If e) = cond_item e

abbrev pub dom_step : Level NodeDom-F → pure.Dom
dom_step NodeDom-F.Bool = bool_dom
dom_step (NodeDom-F.Int rs es) = int_dom (map pure_ends rs) (exs_of es)
dom_step (NodeDom-F.NodeDom::Name a) = name_dom a
dom_step (NodeDom-F.Tuple ds) = tuple_dom (doms_of ds)
dom_step (NodeDom-F.Record fs ds) = record_dom fs (doms_of ds)
dom_step (NodeDom-F.Matrix is d) = matrix_dom (doms_of is) d
dom_step (NodeDom-F.Set ms es d) = set_dom (map pure_mark ms) (exs_of es) d
dom_step (NodeDom-F.MSet ms es d) = mset_dom (map pure_mark ms) (exs_of es) d
dom_step (NodeDom-F.Function ms es d c) = function_dom (map pure_mark ms) (exs_of es) d c
dom_step (NodeDom-F.Relation ms es ds) = relation_dom (map pure_mark ms) (exs_of es) (doms_of ds)
dom_step (NodeDom-F.Partition ms es d) = partition_dom (map pure_mark ms) (exs_of es) d

abbrev pub seen_step : Level Seen-F → pure.Ex
seen_step v = seen_ex (pure_repr v.repr) v.dom v.cells (exs_of v.at)

-- ---- the pure trees

-- The pure tree of an expression.
abbrev pub pure_node : Node → pure.Ex
pure_node = fold-Node Item pure.Ex pure.Dom pure.Ex gen_step node_step dom_step seen_step

-- The pure tree of a generator or condition.
abbrev pub pure_gen : Gen → Item
pure_gen = fold-Gen Item pure.Ex pure.Dom pure.Ex gen_step node_step dom_step seen_step

-- The pure tree of a domain.
abbrev pub pure_dom : NodeDom → pure.Dom
pure_dom = fold-NodeDom Item pure.Ex pure.Dom pure.Ex gen_step node_step dom_step seen_step

-- The pure tree of a view.
abbrev pub pure_seen : Seen → pure.Ex
pure_seen = fold-Seen Item pure.Ex pure.Dom pure.Ex gen_step node_step dom_step seen_step

-- ---- rows of trees

-- The pure trees of operands.
abbrev pub pure_nodes : List Node → pure.Exs
pure_nodes es = exs_of (map pure_node es)

-- The pure trees of domains.
abbrev pub pure_doms : List NodeDom → pure.Doms
pure_doms ds = doms_of (map pure_dom ds)

-- The pure trees of generators and conditions, from left to right.
abbrev pub pure_gens : List Gen → pure.Gens
pure_gens gs = gens_of (map pure_gen gs)
