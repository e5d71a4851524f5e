-- What a pass makes of a domain, by its form.
use Rattle.std.proofs.Common.{◌≡◌, refl, sym, ap, ◌∙◌, subst, List, map}
use Rattle.ess_semantics.specs.Values.{Text}
use Rattle.ess_semantics.specs.Names.{Names}
use Rattle.ess_semantics.specs.Trees.{Dom}
use Rattle.ess_semantics.specs.Types.{Ty}
use Rattle.ess_semantics.specs.Contexts.{fill_dom}
use Rattle.ess_semantics.specs.NamesAt.{names_at_dom}
use Rattle.ess_core_nodes.specs.declared.words.Ends.{Ends}
use Rattle.ess_core_nodes.specs.declared.words.Mark.{Mark}
use Rattle.ess_core_nodes.specs.declared.nodes.Node.{Node}
use Rattle.ess_core_nodes.specs.declared.nodes.NodeDom.TheVariants as dom
use Rattle.ess_core_nodes.specs.declared.nodes.NodeDom.{NodeDom}
use Rattle.ess_core_nodes.specs.NodeViews.{pure_nodes, pure_dom, pure_doms, pure_ends, pure_mark}
use Rattle.ess_refine.specs.Passes.{AllPass, DomPasses, DomsPass}
use Rattle.ess_refine.specs.declared.passing.Turns.{Turns}
use Rattle.ess_refine.proofs.NodeForms.{pure_int, pure_tuple, pure_record, pure_matrix, pure_set, pure_mset, pure_function, pure_relation, pure_partition}
use Rattle.ess_refine.proofs.Chains.{passes-none}
use Rattle.ess_refine.proofs.Parts.{bounds_pass, components_pass, fields_pass, matrices_pass, set_passes, mset_passes, function_passes, relation_passes, partition_passes}

-- Equal trees.
dom-as : (o n : Turns) (g : Names Ty) (x y : NodeDom) (a b : Dom) → pure_dom x ≡ a → pure_dom y ≡ b → DomPasses o g a b n
    → DomPasses o g (pure_dom x) (pure_dom y) n
dom-as o n g x y a b e q w =
    subst (λ z. DomPasses o g z (pure_dom y) n) (sym e) (subst (λ z. DomPasses o g a z n) (sym q) w)

-- ---- domains

pub bounds_turn : (o n : Turns) (g : Names Ty) (x : NodeDom) (rs : List Ends) (es fs : List Node) → x ≡ dom.Int rs es
    → AllPass o g (pure_nodes es) (pure_nodes fs) n → DomPasses o g (pure_dom x) (pure_dom (dom.Int rs fs)) n
bounds_turn o n g x rs es fs e w = dom-as o n g x (dom.Int rs fs) _ _ (ap pure_dom e ∙ pure_int rs es) (pure_int rs fs)
    (bounds_pass o n g (map pure_ends rs) (pure_nodes es) (pure_nodes fs) w)

pub tuple_turn : (o n : Turns) (g : Names Ty) (x : NodeDom) (ds es : List NodeDom) → x ≡ dom.Tuple ds
    → DomsPass o g (pure_doms ds) (pure_doms es) n → DomPasses o g (pure_dom x) (pure_dom (dom.Tuple es)) n
tuple_turn o n g x ds es e w = dom-as o n g x (dom.Tuple es) _ _ (ap pure_dom e ∙ pure_tuple ds) (pure_tuple es)
    (components_pass o n g (pure_doms ds) (pure_doms es) w)

pub record_turn : (o n : Turns) (g : Names Ty) (x : NodeDom) (fs : List Text) (ds es : List NodeDom) → x ≡ dom.Record fs ds
    → DomsPass o g (pure_doms ds) (pure_doms es) n → DomPasses o g (pure_dom x) (pure_dom (dom.Record fs es)) n
record_turn o n g x fs ds es e w = dom-as o n g x (dom.Record fs es) _ _ (ap pure_dom e ∙ pure_record fs ds) (pure_record fs es)
    (fields_pass o n g fs (pure_doms ds) (pure_doms es) w)

pub axes_turn : (o k n : Turns) (g : Names Ty) (x : NodeDom) (is js : List NodeDom) (d e : NodeDom) → x ≡ dom.Matrix is d
    → DomsPass o g (pure_doms is) (pure_doms js) k → DomPasses k g (pure_dom d) (pure_dom e) n
    → DomPasses o g (pure_dom x) (pure_dom (dom.Matrix js e)) n
axes_turn o k n g x is js d e q w z = dom-as o n g x (dom.Matrix js e) _ _ (ap pure_dom q ∙ pure_matrix is d) (pure_matrix js e)
    (matrices_pass o k n g (pure_doms is) (pure_doms js) (pure_dom d) (pure_dom e) w z)

pub set_turn : (o k n : Turns) (g : Names Ty) (x : NodeDom) (ms : List Mark) (es fs : List Node) (d e : NodeDom) → x ≡ dom.Set ms es d
    → AllPass o g (pure_nodes es) (pure_nodes fs) k → DomPasses k g (pure_dom d) (pure_dom e) n
    → DomPasses o g (pure_dom x) (pure_dom (dom.Set ms fs e)) n
set_turn o k n g x ms es fs d e q w z = dom-as o n g x (dom.Set ms fs e) _ _ (ap pure_dom q ∙ pure_set ms es d) (pure_set ms fs e)
    (set_passes o k n g (map pure_mark ms) (pure_nodes es) (pure_nodes fs) (pure_dom d) (pure_dom e) w z)

pub mset_turn : (o k n : Turns) (g : Names Ty) (x : NodeDom) (ms : List Mark) (es fs : List Node) (d e : NodeDom) → x ≡ dom.MSet ms es d
    → AllPass o g (pure_nodes es) (pure_nodes fs) k → DomPasses k g (pure_dom d) (pure_dom e) n
    → DomPasses o g (pure_dom x) (pure_dom (dom.MSet ms fs e)) n
mset_turn o k n g x ms es fs d e q w z = dom-as o n g x (dom.MSet ms fs e) _ _ (ap pure_dom q ∙ pure_mset ms es d) (pure_mset ms fs e)
    (mset_passes o k n g (map pure_mark ms) (pure_nodes es) (pure_nodes fs) (pure_dom d) (pure_dom e) w z)

pub partition_turn : (o k n : Turns) (g : Names Ty) (x : NodeDom) (ms : List Mark) (es fs : List Node) (d e : NodeDom)
    → x ≡ dom.Partition ms es d → AllPass o g (pure_nodes es) (pure_nodes fs) k → DomPasses k g (pure_dom d) (pure_dom e) n
    → DomPasses o g (pure_dom x) (pure_dom (dom.Partition ms fs e)) n
partition_turn o k n g x ms es fs d e q w z =
    dom-as o n g x (dom.Partition ms fs e) _ _ (ap pure_dom q ∙ pure_partition ms es d) (pure_partition ms fs e)
    (partition_passes o k n g (map pure_mark ms) (pure_nodes es) (pure_nodes fs) (pure_dom d) (pure_dom e) w z)

pub relation_turn : (o k n : Turns) (g : Names Ty) (x : NodeDom) (ms : List Mark) (es fs : List Node) (ds cs : List NodeDom)
    → x ≡ dom.Relation ms es ds → AllPass o g (pure_nodes es) (pure_nodes fs) k → DomsPass k g (pure_doms ds) (pure_doms cs) n
    → DomPasses o g (pure_dom x) (pure_dom (dom.Relation ms fs cs)) n
relation_turn o k n g x ms es fs ds cs q w z =
    dom-as o n g x (dom.Relation ms fs cs) _ _ (ap pure_dom q ∙ pure_relation ms es ds) (pure_relation ms fs cs)
    (relation_passes o k n g (map pure_mark ms) (pure_nodes es) (pure_nodes fs) (pure_doms ds) (pure_doms cs) w z)

pub function_turn : (o j k n : Turns) (g : Names Ty) (x : NodeDom) (ms : List Mark) (es fs : List Node) (a b d e : NodeDom)
    → x ≡ dom.Function ms es a d → AllPass o g (pure_nodes es) (pure_nodes fs) j → DomPasses j g (pure_dom a) (pure_dom b) k
    → DomPasses k g (pure_dom d) (pure_dom e) n → DomPasses o g (pure_dom x) (pure_dom (dom.Function ms fs b e)) n
function_turn o j k n g x ms es fs a b d e q w y z =
    dom-as o n g x (dom.Function ms fs b e) _ _ (ap pure_dom q ∙ pure_function ms es a d) (pure_function ms fs b e)
    (function_passes o j k n g (map pure_mark ms) (pure_nodes es) (pure_nodes fs) (pure_dom a) (pure_dom b) (pure_dom d) (pure_dom e) w y z)

pub dom_stays : (o : Turns) (g : Names Ty) (x y : NodeDom) → x ≡ y → DomPasses o g (pure_dom x) (pure_dom y) o
dom_stays o g x y e =
    subst (λ z. DomPasses o g (pure_dom x) (pure_dom z) o) e (passes-none fill_dom names_at_dom o o g (pure_dom x) refl)

-- In a box.
pub boxed_dom_turn : (o n : Turns) (g : Names Ty) (x a b y : NodeDom) → a ≡ x → DomPasses o g (pure_dom a) (pure_dom b) n → y ≡ b
    → DomPasses o g (pure_dom x) (pure_dom y) n
boxed_dom_turn o n g x a b y q w e =
    subst (λ z. DomPasses o g (pure_dom z) (pure_dom y) n) q (subst (λ z. DomPasses o g (pure_dom a) (pure_dom z) n) (sym e) w)
