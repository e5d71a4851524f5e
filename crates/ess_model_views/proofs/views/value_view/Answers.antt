use Rattle.std.proofs.Common.{rules, ◌≡◌, ◌∙◌, map, Some, None}
use Rattle.std.proofs.lemmas.Result.{IfOk-weaker}
use Rattle.ess_semantics.specs.Meaning.{is_bool_dom}
use Rattle.ess_core.specs.TreeViews as code
use Rattle.ess_core.specs.TreeViews.{pure_repr}
use Rattle.ess_core_nodes.specs.NodeViews.{pure_dom}
use Rattle.ess_translate_plans.specs.Views.{pure_side, pure_table_name}
use Rattle.ess_model_views.specs.Scalars.{scalar_cell}
use Rattle.ess_model_views.proofs.ScalarLaws.{cell_viewed, seen_viewed}
use Rattle.ess_model_views.proofs.views.value_view.Goals as goal

pub returns-in-Some : goal.returns-in-Some
returns-in-Some c =
    let v = c.args.value.now in
    let some : Some c.in-Some.cell.now ≡ scalar_cell (pure_repr v.tree) (map pure_table_name v.tables) = search rules in
    let is : c.is_bool.result ≡ is_bool_dom (code.pure_dom v.dom) = search rules in
    IfOk-weaker c.cell_node.result _ _
    (λ n h. h ∙ cell_viewed (pure_dom c.args.dom.now) (pure_side v.side) v.name (pure_repr v.tree) (code.pure_dom v.dom)
    (map pure_table_name v.tables) c.is_bool.result c.in-Some.cell.now some is) c.cell_node.ensures

pub returns-in-None : goal.returns-in-None
returns-in-None c =
    let v = c.args.value.now in
    let none : None ≡ scalar_cell (pure_repr v.tree) (map pure_table_name v.tables) = search rules in
    IfOk-weaker c.seen_view.result _ _
    (λ n h. h ∙ seen_viewed (pure_dom c.args.dom.now) (pure_side v.side) v.name (pure_repr v.tree) (code.pure_dom v.dom)
    (map pure_table_name v.tables) none) c.seen_view.ensures
