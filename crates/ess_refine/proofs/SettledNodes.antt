-- Nodes and domains that are settled, by their form.
use Rattle.std.proofs.Common.{◌≡◌, sym, ap, ◌∙◌, subst, ℕ, Bool, true, List, map, Result, IfOk}
use Rattle.std.proofs.lemmas.Result.{IfOk-weaker}
use Rattle.ess_semantics.specs.Values.{Text}
use Rattle.ess_semantics.specs.Names.{Names}
use Rattle.ess_semantics.specs.Trees.{Ex, node_ex, matrix_ex, comp_ex, cell_ex, seen_ex, Dom, int_dom, tuple_dom, record_dom, matrix_dom, set_dom, mset_dom, function_dom, relation_dom, partition_dom}
use Rattle.ess_semantics.specs.Types.{Ty}
use Rattle.ess_semantics.specs.NamesAt.{names_behind}
use Rattle.ess_core.specs.TreeViews.{pure_repr}
use Rattle.ess_core_nodes.specs.declared.words.Op.{Op}
use Rattle.ess_core_nodes.specs.declared.words.Ends.{Ends}
use Rattle.ess_core_nodes.specs.declared.words.Mark.{Mark}
use Rattle.ess_core_nodes.specs.declared.nodes.Node.TheVariants as node
use Rattle.ess_core_nodes.specs.declared.nodes.Node.{Node}
use Rattle.ess_core_nodes.specs.declared.nodes.Gen.{Gen}
use Rattle.ess_core_nodes.specs.declared.nodes.Gen.TheViews.{out-Seen}
use Rattle.ess_core_nodes.specs.declared.nodes.NodeDom.TheVariants as dom
use Rattle.ess_core_nodes.specs.declared.nodes.NodeDom.{NodeDom}
use Rattle.ess_core_nodes.specs.declared.nodes.Seen.{Seen}
use Rattle.ess_core_nodes.specs.NodeViews.{pure_node, pure_nodes, pure_gens, pure_dom, pure_doms, pure_op, pure_ends, pure_mark}
use Rattle.ess_core_nodes.proofs.NodeEquations.{pure_seen_is}
use Rattle.ess_rules.specs.Ruled.{NoneFires}
use Rattle.ess_refine.specs.Settled.{Settled, AllSettled, GensSettled, DomSettled, DomsSettled}
use Rattle.ess_refine.proofs.NodeForms.{pure_operator, pure_matrix_on, pure_comprehension, pure_cell, pure_view, pure_int, pure_tuple, pure_record, pure_matrix, pure_set, pure_mset, pure_function, pure_relation, pure_partition}
use Rattle.ess_refine.proofs.SettledForms.{PartsSettled, DomPartsSettled, settled_by_parts, dom_settled_by_parts}

-- An answer of a call, which says of a larger tree what it says of the last of its parts.
pub rests_where : {P Q E : Type 0} (r : Result Bool E) → (P → Q) → IfOk r (λ b. b ≡ true → P) → IfOk r (λ b. b ≡ true → Q)
rests_where {P = P} {Q = Q} r f h = IfOk-weaker r (λ b. b ≡ true → P) (λ b. b ≡ true → Q) (λ b k e. f (k e)) h

-- A node is settled where no rule fires at its root, and the parts of its form are.
pub node_settled : (n : ℕ) (g : Names Ty) (x : Node) (e : Ex) → pure_node x ≡ e → NoneFires n g (pure_node x) → PartsSettled n g e
    → Settled n g (pure_node x)
node_settled n g x e q r h = settled_by_parts n g (pure_node x) r (subst (PartsSettled n g) (sym q) h)

-- The same of a domain.
pub dom_settled : (n : ℕ) (g : Names Ty) (x : NodeDom) (d : Dom) → pure_dom x ≡ d → DomPartsSettled n g d → DomSettled n g (pure_dom x)
dom_settled n g x d q h = dom_settled_by_parts n g (pure_dom x) (subst (DomPartsSettled n g) (sym q) h)

-- Equal parts.
all-as : (n : ℕ) (g : Names Ty) (xs es : List Node) → xs ≡ es → AllSettled n g (pure_nodes xs) → AllSettled n g (pure_nodes es)
all-as n g xs es q h = subst (λ l. AllSettled n g (pure_nodes l)) q h

dom-as : (n : ℕ) (g : Names Ty) (x d : NodeDom) → x ≡ d → DomSettled n g (pure_dom x) → DomSettled n g (pure_dom d)
dom-as n g x d q h = subst (λ y. DomSettled n g (pure_dom y)) q h

doms-as : (n : ℕ) (g : Names Ty) (xs ds : List NodeDom) → xs ≡ ds → DomsSettled n g (pure_doms xs) → DomsSettled n g (pure_doms ds)
doms-as n g xs ds q h = subst (λ l. DomsSettled n g (pure_doms l)) q h

-- ---- nodes

pub op_settled : (n : ℕ) (g : Names Ty) (x : Node) (b : Bool) (op : Op) (es xs : List Node) → x ≡ node.Op b op es → xs ≡ es
    → NoneFires n g (pure_node x) → AllSettled n g (pure_nodes xs) → Settled n g (pure_node x)
op_settled n g x b op es xs q i r h = node_settled n g x (node_ex b (pure_op op) (pure_nodes es)) (ap pure_node q ∙ pure_operator b op es) r
    (all-as n g xs es i h)

pub cell_settled : (n : ℕ) (g : Names Ty) (x : Node) (b : Bool) (a : Text) (es xs : List Node) → x ≡ node.Cell b a es → xs ≡ es
    → NoneFires n g (pure_node x) → AllSettled n g (pure_nodes xs) → Settled n g (pure_node x)
cell_settled n g x b a es xs q i r h = node_settled n g x (cell_ex b a (pure_nodes es)) (ap pure_node q ∙ pure_cell b a es) r
    (all-as n g xs es i h)

pub matrix_settled : (n : ℕ) (g : Names Ty) (x : Node) (es xs : List Node) (d y : NodeDom) → x ≡ node.MatrixOn es d → xs ≡ es → y ≡ d
    → NoneFires n g (pure_node x) → AllSettled n g (pure_nodes xs) → DomSettled n g (pure_dom y) → Settled n g (pure_node x)
matrix_settled n g x es xs d y q i j r h k =
    node_settled n g x (matrix_ex (pure_nodes es) (pure_dom d)) (ap pure_node q ∙ pure_matrix_on es d) r
    (all-as n g xs es i h, dom-as n g y d j k)

pub comp_settled : (n : ℕ) (g u : Names Ty) (x e y : Node) (gs xs ys : List Gen) → x ≡ node.Comp e gs → xs ≡ gs → ys ≡ gs
    → u ≡ names_behind (pure_gens ys) g → y ≡ e → NoneFires n g (pure_node x) → GensSettled n g (pure_gens xs)
    → Settled n u (pure_node y) → Settled n g (pure_node x)
comp_settled n g u x e y gs xs ys q i j b l r h k =
    node_settled n g x (comp_ex (pure_node e) (pure_gens gs)) (ap pure_node q ∙ pure_comprehension e gs) r (
      subst (λ l. GensSettled n g (pure_gens l)) i h,
      subst (λ v. Settled n v (pure_node e)) (b ∙ ap (λ l. names_behind (pure_gens l) g) j) (subst (λ z. Settled n u (pure_node z)) l k),
    )

pub view_settled : (n : ℕ) (g : Names Ty) (x : Node) (v w : Seen) (d : NodeDom) (es : List Node) → x ≡ node.Seen v → w ≡ v
    → d ≡ (out-Seen w).dom → es ≡ (out-Seen w).at → NoneFires n g (pure_node x) → DomSettled n g (pure_dom d)
    → AllSettled n g (pure_nodes es) → Settled n g (pure_node x)
view_settled n g x v w d es q i j k r h l =
    node_settled n g x (seen_ex (pure_repr (out-Seen w).repr) (pure_dom (out-Seen w).dom) (out-Seen w).cells (pure_nodes (out-Seen w).at))
    (ap pure_node (q ∙ ap node.Seen (sym i)) ∙ pure_view w ∙ pure_seen_is w) r
    (dom-as n g d (out-Seen w).dom j h, all-as n g es (out-Seen w).at k l)

-- ---- domains

pub int_settled : (n : ℕ) (g : Names Ty) (x : NodeDom) (rs : List Ends) (es xs : List Node) → x ≡ dom.Int rs es → xs ≡ es
    → AllSettled n g (pure_nodes xs) → DomSettled n g (pure_dom x)
int_settled n g x rs es xs q i h = dom_settled n g x (int_dom (map pure_ends rs) (pure_nodes es)) (ap pure_dom q ∙ pure_int rs es)
    (all-as n g xs es i h)

pub tuple_settled : (n : ℕ) (g : Names Ty) (x : NodeDom) (ds xs : List NodeDom) → x ≡ dom.Tuple ds → xs ≡ ds
    → DomsSettled n g (pure_doms xs) → DomSettled n g (pure_dom x)
tuple_settled n g x ds xs q i h = dom_settled n g x (tuple_dom (pure_doms ds)) (ap pure_dom q ∙ pure_tuple ds) (doms-as n g xs ds i h)

pub record_settled : (n : ℕ) (g : Names Ty) (x : NodeDom) (fs : List Text) (ds xs : List NodeDom) → x ≡ dom.Record fs ds → xs ≡ ds
    → DomsSettled n g (pure_doms xs) → DomSettled n g (pure_dom x)
record_settled n g x fs ds xs q i h =
    dom_settled n g x (record_dom fs (pure_doms ds)) (ap pure_dom q ∙ pure_record fs ds) (doms-as n g xs ds i h)

pub axes_settled : (n : ℕ) (g : Names Ty) (x : NodeDom) (is xs : List NodeDom) (d y : NodeDom) → x ≡ dom.Matrix is d → xs ≡ is → y ≡ d
    → DomsSettled n g (pure_doms xs) → DomSettled n g (pure_dom y) → DomSettled n g (pure_dom x)
axes_settled n g x is xs d y q i j h k =
    dom_settled n g x (matrix_dom (pure_doms is) (pure_dom d)) (ap pure_dom q ∙ pure_matrix is d)
    (doms-as n g xs is i h, dom-as n g y d j k)

pub set_settled : (n : ℕ) (g : Names Ty) (x : NodeDom) (ms : List Mark) (es xs : List Node) (d y : NodeDom) → x ≡ dom.Set ms es d → xs ≡ es
    → y ≡ d → AllSettled n g (pure_nodes xs) → DomSettled n g (pure_dom y) → DomSettled n g (pure_dom x)
set_settled n g x ms es xs d y q i j h k =
    dom_settled n g x (set_dom (map pure_mark ms) (pure_nodes es) (pure_dom d)) (ap pure_dom q ∙ pure_set ms es d)
    (all-as n g xs es i h, dom-as n g y d j k)

pub mset_settled : (n : ℕ) (g : Names Ty) (x : NodeDom) (ms : List Mark) (es xs : List Node) (d y : NodeDom) → x ≡ dom.MSet ms es d
    → xs ≡ es → y ≡ d → AllSettled n g (pure_nodes xs) → DomSettled n g (pure_dom y) → DomSettled n g (pure_dom x)
mset_settled n g x ms es xs d y q i j h k =
    dom_settled n g x (mset_dom (map pure_mark ms) (pure_nodes es) (pure_dom d)) (ap pure_dom q ∙ pure_mset ms es d)
    (all-as n g xs es i h, dom-as n g y d j k)

pub partition_settled : (n : ℕ) (g : Names Ty) (x : NodeDom) (ms : List Mark) (es xs : List Node) (d y : NodeDom)
    → x ≡ dom.Partition ms es d → xs ≡ es → y ≡ d → AllSettled n g (pure_nodes xs) → DomSettled n g (pure_dom y)
    → DomSettled n g (pure_dom x)
partition_settled n g x ms es xs d y q i j h k =
    dom_settled n g x (partition_dom (map pure_mark ms) (pure_nodes es) (pure_dom d)) (ap pure_dom q ∙ pure_partition ms es d)
    (all-as n g xs es i h, dom-as n g y d j k)

pub relation_settled : (n : ℕ) (g : Names Ty) (x : NodeDom) (ms : List Mark) (es xs : List Node) (ds ys : List NodeDom)
    → x ≡ dom.Relation ms es ds → xs ≡ es → ys ≡ ds → AllSettled n g (pure_nodes xs) → DomsSettled n g (pure_doms ys)
    → DomSettled n g (pure_dom x)
relation_settled n g x ms es xs ds ys q i j h k =
    dom_settled n g x (relation_dom (map pure_mark ms) (pure_nodes es) (pure_doms ds)) (ap pure_dom q ∙ pure_relation ms es ds)
    (all-as n g xs es i h, doms-as n g ys ds j k)

pub function_settled : (n : ℕ) (g : Names Ty) (x : NodeDom) (ms : List Mark) (es xs : List Node) (d y e z : NodeDom)
    → x ≡ dom.Function ms es d e → xs ≡ es → y ≡ d → z ≡ e → AllSettled n g (pure_nodes xs) → DomSettled n g (pure_dom y)
    → DomSettled n g (pure_dom z) → DomSettled n g (pure_dom x)
function_settled n g x ms es xs d y e z q i j l h k m =
    dom_settled n g x (function_dom (map pure_mark ms) (pure_nodes es) (pure_dom d) (pure_dom e)) (ap pure_dom q ∙ pure_function ms es d e)
    (all-as n g xs es i h, dom-as n g y d j k, dom-as n g z e l m)
