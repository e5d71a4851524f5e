-- Structures of functions and relations from the same parts. Attributes are asked by a function of the attribute, under which search
-- doesn't go.
use Rattle.std.proofs.Common.{◌≡◌, sym, ap, ◌∙◌, ℕ, List, ◌∷◌, map}
use Rattle.ess_semantics.specs.declared.words.ReprKind.{ReprKind}
use Rattle.ess_semantics.specs.Values.{Text}
use Rattle.ess_semantics.specs.Trees as pure
use Rattle.ess_semantics.specs.Trees.{Repr, Ex, Exs, Dom, function_dom, relation_dom}
use Rattle.ess_core.specs.TreeViews.{Item}
use Rattle.ess_core_nodes.specs.declared.words.Mark.{Mark}
use Rattle.ess_core_nodes.specs.declared.nodes.Node.{Node}
use Rattle.ess_core_nodes.specs.declared.nodes.NodeDom.{NodeDom}
use Rattle.ess_core_nodes.specs.declared.nodes.Gen.TheOpen.{NodeDom-F}
use Rattle.ess_core_nodes.specs.declared.nodes.NodeDom.TheVariants as dom
use Rattle.ess_core_nodes.specs.declared.nodes.Gen.TheFolds.{fold-roll-NodeDom}
use Rattle.ess_core_nodes.specs.NodeViews.{gen_step, node_step, dom_step, seen_step, pure_nodes, pure_dom, pure_doms, pure_mark}
use Rattle.ess_repr_laws.specs.StructureParts.{Shape, and_ex, keys_ex, tuple_set_dom, first_name}
use Rattle.ess_repr_laws.specs.FunctionParts.{bare_function_dom, total_ex, partial_ex}
use Rattle.ess_repr_laws.specs.RelationParts.{relation_key_ex}
use Rattle.ess_repr_laws.specs.ViewParts.{shape_names, view_ex}
use Rattle.conjure_model_laws.specs.ToldApart.{reserved}
use Rattle.ess_structure_layers.specs.Layers.{view_over, total_layer, partial_layer, tuples_layer}

-- A function with a value at each place.
pub total_same : (e v : Ex) (k : ReprKind) (r : Repr) (ms' ms : List Mark) (es' es : List Node) (d' d c' c : NodeDom) (l : ℕ) (is : Exs)
    (as' : List Dom) (ss : List Shape) (part : Ex) →
    e ≡ total_ex reserved l (map pure_mark ms') (pure_nodes es') as' ss is r (pure_dom c') v part →
    v ≡ view_over k r (bare_function_dom (pure_dom d') (pure_dom c')) (shape_names ss) is → ms' ≡ ms → es' ≡ es → d' ≡ d → c' ≡ c →
    e ≡ total_ex reserved l (map pure_mark ms) (pure_nodes es) as' ss is r (pure_dom c)
    (view_over k r (bare_function_dom (pure_dom d) (pure_dom c)) (shape_names ss) is) part
total_same e v k r ms' ms es' es d' d c' c l is as' ss part h p f g a b =
    h ∙ ap (λ x. total_ex reserved l (map pure_mark ms') (pure_nodes es') as' ss is r (pure_dom c') x part) p
    ∙ ap (λ x. total_ex reserved l (map pure_mark x) (pure_nodes es') as' ss is r (pure_dom c')
    (view_over k r (bare_function_dom (pure_dom d') (pure_dom c')) (shape_names ss) is) part) f
    ∙ ap (λ x. total_ex reserved l (map pure_mark ms) (pure_nodes x) as' ss is r (pure_dom c')
    (view_over k r (bare_function_dom (pure_dom d') (pure_dom c')) (shape_names ss) is) part) g
    ∙ ap (λ x. total_ex reserved l (map pure_mark ms) (pure_nodes es) as' ss is r (pure_dom c')
    (view_over k r (bare_function_dom (pure_dom x) (pure_dom c')) (shape_names ss) is) part) a
    ∙ ap (λ x. total_ex reserved l (map pure_mark ms) (pure_nodes es) as' ss is r (pure_dom x)
    (view_over k r (bare_function_dom (pure_dom d) (pure_dom x)) (shape_names ss) is) part) b

-- A function with a flag and a value at each place.
pub partial_same : (e v : Ex) (k : ReprKind) (r : Repr) (ms' ms : List Mark) (es' es : List Node) (d' d c' c : NodeDom) (n' n : Text) (l : ℕ)
    (is : Exs) (as' : List Dom) (ss : List Shape) (part : Ex) →
    e ≡ partial_ex reserved l (map pure_mark ms') (pure_nodes es') as' n' is ss (pure_dom c') v part →
    v ≡ view_over k r (bare_function_dom (pure_dom d') (pure_dom c')) (n' ∷ shape_names ss) is →
    n' ≡ n → ms' ≡ ms → es' ≡ es → d' ≡ d → c' ≡ c →
    e ≡ partial_ex reserved l (map pure_mark ms) (pure_nodes es) as' n is ss (pure_dom c)
    (view_over k r (bare_function_dom (pure_dom d) (pure_dom c)) (n ∷ shape_names ss) is) part
partial_same e v k r ms' ms es' es d' d c' c n' n l is as' ss part h p q f g a b =
    h ∙ ap (λ x. partial_ex reserved l (map pure_mark ms') (pure_nodes es') as' n' is ss (pure_dom c') x part) p
    ∙ ap (λ x. partial_ex reserved l (map pure_mark ms') (pure_nodes es') as' x is ss (pure_dom c')
    (view_over k r (bare_function_dom (pure_dom d') (pure_dom c')) (x ∷ shape_names ss) is) part) q
    ∙ ap (λ x. partial_ex reserved l (map pure_mark x) (pure_nodes es') as' n is ss (pure_dom c')
    (view_over k r (bare_function_dom (pure_dom d') (pure_dom c')) (n ∷ shape_names ss) is) part) f
    ∙ ap (λ x. partial_ex reserved l (map pure_mark ms) (pure_nodes x) as' n is ss (pure_dom c')
    (view_over k r (bare_function_dom (pure_dom d') (pure_dom c')) (n ∷ shape_names ss) is) part) g
    ∙ ap (λ x. partial_ex reserved l (map pure_mark ms) (pure_nodes es) as' n is ss (pure_dom c')
    (view_over k r (bare_function_dom (pure_dom x) (pure_dom c')) (n ∷ shape_names ss) is) part) a
    ∙ ap (λ x. partial_ex reserved l (map pure_mark ms) (pure_nodes es) as' n is ss (pure_dom x)
    (view_over k r (bare_function_dom (pure_dom d) (pure_dom x)) (n ∷ shape_names ss) is) part) b

-- A relation as the set of its tuples.
pub tuples_same : (e v w part : Ex) (r : Repr) (ms' ms : List Mark) (es' es : List Node) (ds' ds : List NodeDom) (t : Dom) (l : ℕ) (is : Exs)
    (ss : List Shape) →
    e ≡ and_ex part w → w ≡ keys_ex (relation_key_ex reserved l (pure_doms ds') v) (map pure_mark ms') → v ≡ view_ex r t ss is →
    t ≡ tuple_set_dom (map pure_mark ms') (pure_nodes es') (pure_doms ds') → ms' ≡ ms → es' ≡ es → ds' ≡ ds →
    e ≡ and_ex part (keys_ex (relation_key_ex reserved l (pure_doms ds)
    (view_ex r (tuple_set_dom (map pure_mark ms) (pure_nodes es) (pure_doms ds)) ss is)) (map pure_mark ms))
tuples_same e v w part r ms' ms es' es ds' ds t l is ss h p q u f g a =
    h ∙ ap (and_ex part)
    (p ∙ ap (λ x. keys_ex (relation_key_ex reserved l (pure_doms ds') x) (map pure_mark ms')) (q ∙ ap (λ x. view_ex r x ss is) u)
    ∙ ap (λ x. keys_ex (relation_key_ex reserved l (pure_doms ds')
    (view_ex r (tuple_set_dom (map pure_mark x) (pure_nodes es') (pure_doms ds')) ss is)) (map pure_mark x)) f
    ∙ ap (λ x. keys_ex (relation_key_ex reserved l (pure_doms ds')
    (view_ex r (tuple_set_dom (map pure_mark ms) (pure_nodes x) (pure_doms ds')) ss is)) (map pure_mark ms)) g
    ∙ ap (λ x. keys_ex (relation_key_ex reserved l (pure_doms x)
    (view_ex r (tuple_set_dom (map pure_mark ms) (pure_nodes es) (pure_doms x)) ss is)) (map pure_mark ms)) a)

-- ---- forms of domains

-- Functions.
function-is : (ms : List Mark) (es : List Node) (d c : NodeDom) →
    pure_dom (dom.Function ms es d c) ≡ function_dom (map pure_mark ms) (pure_nodes es) (pure_dom d) (pure_dom c)
function-is ms es d c =
    ap pure_dom (sym (dom.rolls-Function ms es d c)) ∙ fold-roll-NodeDom Item pure.Ex pure.Dom pure.Ex gen_step node_step dom_step seen_step
    (NodeDom-F.Function ms es d c)

-- Relations.
relation-is : (ms : List Mark) (es : List Node) (ds : List NodeDom) →
    pure_dom (dom.Relation ms es ds) ≡ relation_dom (map pure_mark ms) (pure_nodes es) (pure_doms ds)
relation-is ms es ds =
    ap pure_dom (sym (dom.rolls-Relation ms es ds)) ∙ fold-roll-NodeDom Item pure.Ex pure.Dom pure.Ex gen_step node_step dom_step seen_step
    (NodeDom-F.Relation ms es ds)

pub total_arm : (e : Ex) (x : NodeDom) (k : ReprKind) (r : Repr) (ms : List Mark) (es : List Node) (d c : NodeDom) (l : ℕ) (is : Exs)
    (as' : List Dom) (ss : List Shape) (part : Ex) → x ≡ dom.Function ms es d c →
    e ≡ total_ex reserved l (map pure_mark ms) (pure_nodes es) as' ss is r (pure_dom c)
    (view_over k r (bare_function_dom (pure_dom d) (pure_dom c)) (shape_names ss) is) part →
    e ≡ total_layer k r (pure_dom x) l is as' ss part
total_arm e x k r ms es d c l is as' ss part p h =
    h ∙ ap (λ y. total_layer k r y l is as' ss part) (sym (ap pure_dom p ∙ function-is ms es d c))

pub partial_arm : (e : Ex) (x : NodeDom) (k : ReprKind) (r : Repr) (ms : List Mark) (es : List Node) (d c : NodeDom) (ns : List Text) (l : ℕ)
    (is : Exs) (as' : List Dom) (ss : List Shape) (part : Ex) → x ≡ dom.Function ms es d c →
    e ≡ partial_ex reserved l (map pure_mark ms) (pure_nodes es) as' (first_name ns) is ss (pure_dom c)
    (view_over k r (bare_function_dom (pure_dom d) (pure_dom c)) (first_name ns ∷ shape_names ss) is) part →
    e ≡ partial_layer k r (pure_dom x) ns l is as' ss part
partial_arm e x k r ms es d c ns l is as' ss part p h =
    h ∙ ap (λ y. partial_layer k r y ns l is as' ss part) (sym (ap pure_dom p ∙ function-is ms es d c))

pub tuples_arm : (e : Ex) (x : NodeDom) (r : Repr) (ms : List Mark) (es : List Node) (ds : List NodeDom) (l : ℕ) (is : Exs) (ss : List Shape)
    (part : Ex) → x ≡ dom.Relation ms es ds →
    e ≡ and_ex part (keys_ex (relation_key_ex reserved l (pure_doms ds)
    (view_ex r (tuple_set_dom (map pure_mark ms) (pure_nodes es) (pure_doms ds)) ss is)) (map pure_mark ms)) →
    e ≡ tuples_layer r (pure_dom x) l is ss part
tuples_arm e x r ms es ds l is ss part p h =
    h ∙ ap (λ y. tuples_layer r y l is ss part) (sym (ap pure_dom p ∙ relation-is ms es ds))
