use Rattle.std.proofs.Common.{◌≡◌, ap, ◌∙◌, ◌++◌, Bool, List, map}
use Rattle.std.proofs.lemmas.List.{map-append}
use Rattle.std.proofs.lemmas.Result.{on_ok_weaker}
use Rattle.ess_semantics.specs.Values.{Text}
use Rattle.ess_semantics.specs.Trees.{Dom}
use Rattle.ess_semantics.specs.DeclaredTables.{TableDecl}
use Rattle.ess_core.specs.declared.representations.Repr.TheViews.{out-Repr}
use Rattle.ess_core.specs.TreeViews.{pure_repr, pure_dom}
use Rattle.ess_core.specs.TableViews.{pure_decl}
use Rattle.ess_repr_declare_laws.specs.DeclaredTrees.{trees_below, below_layer}
use Rattle.ess_repr.specs.CellUses.{can_be_out}
use Rattle.ess_repr.specs.Fronts.{trees_of_named}
use Rattle.ess_repr.proofs.DeclaredLayers.{children_from, children_more, no_name_left, no_domain_left, layer_put}
use Rattle.ess_repr.proofs.declaring.+tables.Goals as goal

pub add_children-loop-i-preserved : goal.add_children-loop-i-preserved
add_children-loop-i-preserved t c =
    children_more (can_be_out c.args.out) c.args.children.now c.args.names.now c.args.doms.now c.loop-i.i c.args.name.now
    c.index-names-i.result c.in_ok-front.front (map pure_dom c.args.axes.now) c.index-children-i.result c.index-doms-i.result
    (map pure_decl c.args.tables.now
    ++ map (below_layer c.args.name.now (map pure_dom c.args.axes.now)) (children_from (can_be_out c.args.out) c.args.children.now c.args.names.now c.args.doms.now))
    (map pure_decl c.loop-i.tables) (map pure_decl c.add_tables.new.tables)
    c.loop-i-test.true c.if-i-names.true c.if-i-doms.true c.index-children-i.is c.index-names-i.is c.index-doms-i.is
    c.in_ok-front.ensures c.in_ok-add_tables.ensures c.loop-i.invariant

pub add_children-returns-else-i-doms : goal.add_children-returns-else-i-doms
add_children-returns-else-i-doms t c =
    no_domain_left (can_be_out c.args.out) c.args.children.now c.args.names.now c.args.doms.now c.loop-i.i c.args.name.now (map pure_dom c.args.axes.now)
    (map pure_decl c.args.tables.now
    ++ map (below_layer c.args.name.now (map pure_dom c.args.axes.now)) (children_from (can_be_out c.args.out) c.args.children.now c.args.names.now c.args.doms.now))
    (map pure_decl c.loop-i.tables) c.if-i-doms.false c.loop-i.invariant

pub add_children-returns-else-i-names : goal.add_children-returns-else-i-names
add_children-returns-else-i-names t c =
    no_name_left (can_be_out c.args.out) c.args.children.now c.args.names.now c.args.doms.now c.loop-i.i c.args.name.now (map pure_dom c.args.axes.now)
    (map pure_decl c.args.tables.now
    ++ map (below_layer c.args.name.now (map pure_dom c.args.axes.now)) (children_from (can_be_out c.args.out) c.args.children.now c.args.names.now c.args.doms.now))
    (map pure_decl c.loop-i.tables) c.if-i-names.false c.loop-i.invariant

pub add_tables-returns : goal.add_tables-returns
add_tables-returns t c =
    let n : Text = c.args.name.now in
    let as' : List Dom = map pure_dom c.args.axes.now in
    let ts : List TableDecl = map pure_decl c.args.tables.now in
    let us : List TableDecl = map pure_decl c.add_below.new.tables in
    let bs : List Dom = map pure_dom c.as_slice-6.result.now in
    let ns : List Text = c.as_slice-4.result.now in
    let ds : List Dom = map pure_dom c.as_slice-5.result.now in
    let b : Bool = can_be_out c.use_of_children-out.result in
    on_ok_weaker c.add_children.result
    (λ e. layer_put c.args.repr.now (can_be_out c.args.out) b n as' bs (pure_dom c.args.dom.now) ts us (map pure_decl c.add_children.new.tables) ns ds
    (c.in_ok-add_below.ensures ∙ ap (λ x. ts ++ map (below_layer n as') (map pure_decl x)) c.as_slice.ensures
    ∙ ap (λ x. ts ++ map (below_layer n as') x) c.in_ok-own.ensures)
    (c.as_slice-4.ensures ∙ c.in_ok-names.ensures)
    (ap (map pure_dom) c.as_slice-5.ensures ∙ c.in_ok-doms.ensures)
    (ap (map pure_dom) (c.as_slice-6.ensures ∙ c.in_ok-inner.ensures) ∙ map-append pure_dom c.args.axes.now c.as_slice-2.result.now
    ∙ ap (λ x. as' ++ x) (ap (map pure_dom) c.as_slice-2.ensures ∙ c.in_ok-layer.ensures))
    c.use_of_children-out.ensures
    (e ∙ ap (λ x. us ++ map (below_layer n bs) (trees_of_named b (map pure_repr x) ns ds)) c.as_slice-3.ensures))
    c.add_children.ensures
