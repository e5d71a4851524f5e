use Rattle.std.proofs.Common.{◌≡◌, sym, ap, ◌∙◌, ◌++◌, [], ◌∷◌, map}
use Rattle.std.specs.Prelude.{option_map}
use Rattle.std.proofs.lemmas.List.{map-append, nil_from_length, get_or_default}
use Rattle.ess_semantics.specs.Representations.{width}
use Rattle.ess_core.specs.declared.representations.Repr.{Repr}
use Rattle.ess_core.specs.TreeViews.{pure_repr}
use Rattle.ess_core_nodes.specs.NodeViews.{pure_node, pure_nodes, pure_dom}
use Rattle.ess_structure_domains.specs.InnerViews.{pure_inner}
use Rattle.ess_structure.proofs.ComponentSteps.{structures_from, structures_more}
use Rattle.ess_structure.proofs.LayerSteps.{structure_answered, only_child_answered}
use Rattle.ess_structure.proofs.building.+structure.Goals as goal

pub structure-returns-in-None-split_first : goal.structure-returns-in-None-split_first
structure-returns-in-None-split_first t c =
    only_child_answered c.layer.result c.args.repr.now c.in-Some.child.now c.in-Some.rest.now (pure_dom c.args.dom.now) c.args.names.now
    c.args.level (pure_nodes c.args.at.now) (sym c.as_slice-children.ensures ∙ c.in-Some.ensures.cases.0)
    (nil_from_length c.in-Some.rest.now c.in-None-split_first.ensures.cases) c.layer.ensures

pub layer-returns-in-Some : goal.layer-returns-in-Some
layer-returns-in-Some t c =
    structure_answered c.layer_above.result c.args.kind (pure_repr c.args.child.now) (pure_dom c.args.dom.now) c.args.names.now c.args.level
    (pure_nodes c.args.at.now) (pure_inner c.in-Some.inner) c.requires
    (sym (ap (option_map pure_inner) c.in-Some.is) ∙ c.in_ok-inner.ensures)
    c.layer_above.ensures

pub parts_of_each-loop-i-preserved : goal.parts_of_each-loop-i-preserved
parts_of_each-loop-i-preserved t c =
    let r : Repr = c.index-children-i-in-loop-i.result in
    let same : c.index-children-i.result ≡ r =
    c.index-children-i.is ∙ get_or_default c.args.children.now c.loop-i.i c.index-children-i.result r c.loop-i-test.true
    ∙ sym c.index-children-i-in-loop-i.is in
    structures_more c.args.children.now c.args.parts.now c.loop-i.i c.in_ok-count.count r c.index-parts-i.result
    c.loop-i.rest.now c.front-own.result.now c.behind-rest.result.now c.args.level (pure_nodes c.args.at.now)
    (map pure_node c.loop-i.all) (map pure_node c.push.new.self) (pure_node c.in_ok-part.part)
    (structures_from c.args.children.now c.args.parts.now c.args.names.now c.args.level (pure_nodes c.args.at.now))
    c.loop-i-test.true c.if-i-parts.true c.index-children-i-in-loop-i.is c.index-parts-i.is
    (c.in_ok-count.ensures ∙ ap (λ x. width (pure_repr x)) same) c.front-own.ensures c.behind-rest.ensures c.in_ok-part.ensures
    (ap (map pure_node) c.in_ok-push.ensures.ok ∙ map-append pure_node c.loop-i.all (c.into_inner.result ∷ [])
    ∙ ap (λ x. map pure_node c.loop-i.all ++ pure_node x ∷ []) c.into_inner.ensures)
    c.loop-i.invariant
