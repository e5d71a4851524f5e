use Rattle.std.proofs.Common.{sym, ap, ◌∙◌}
use Rattle.std.specs.Prelude.{option_map}
use Rattle.std.proofs.lemmas.List.{nil_from_length}
use Rattle.std.proofs.lemmas.Result.{IfOk-weaker}
use Rattle.ess_core.specs.TreeViews.{pure_repr}
use Rattle.ess_core_nodes.specs.NodeViews.{pure_dom}
use Rattle.ess_repr_laws.specs.Structure.{shapes}
use Rattle.ess_repr_declare_laws.specs.SizeTerms.{size_terms}
use Rattle.conjure_model_laws.specs.ToldApart.{reserved}
use Rattle.ess_structure_domains.specs.InnerViews.{pure_inner}
use Rattle.ess_structure_layers.proofs.ChildForms.{is_over_one}
use Rattle.ess_structure.proofs.LayerSteps.{tables_there}
use Rattle.ess_structure.proofs.view_tables.+tables.Goals as goal

pub tables-returns-in-None-split_first : goal.tables-returns-in-None-split_first
tables-returns-in-None-split_first t c =
    IfOk-weaker c.tables_over.result _ _
    (λ ss h. h ∙ ap (λ r. shapes reserved size_terms r (pure_dom c.args.dom.now) c.args.names.now)
    (sym (is_over_one c.args.repr.now c.in-Some.child.now c.in-Some.rest.now (sym c.as_slice-children.ensures ∙ c.in-Some.ensures.cases.0)
    (nil_from_length c.in-Some.rest.now c.in-None-split_first.ensures.cases))))
    c.tables_over.ensures

pub tables_over-returns-in-Some : goal.tables_over-returns-in-Some
tables_over-returns-in-Some t c =
    IfOk-weaker c.tables_above.result _ _
    (λ ss h. h ∙ sym (tables_there c.args.kind (pure_repr c.args.child.now) (pure_dom c.args.dom.now) c.args.names.now
    (pure_inner c.in-Some.inner) c.requires (sym (ap (option_map pure_inner) c.in-Some.is) ∙ c.in_ok-inner.ensures)))
    c.tables_above.ensures
