use Rattle.std.proofs.Common.{◌≡◌, IfOk, sym, ap, subst, ◌∙◌, map, option_map}
use Rattle.ess_core.specs.declared.values.Val.TheVariants as variant
use Rattle.ess_core.specs.ValueViews.{pure_val}
use Rattle.ess_eval.proofs.Applied.{relation_at}
use Rattle.ess_eval.proofs.halving.applied_rising.Goals as goal

pub returns-in-Relation : goal.returns-in-Relation
returns-in-Relation c =
    subst (λ w. IfOk c.relation_value.result (λ o. option_map pure_val o ≡ w))
    (sym (relation_at c.args.of.now c.as_slice-in-Relation.result.now (map (option_map pure_val) c.args.arguments)
    (c.in-Relation.is ∙ ap variant.Relation (sym c.as_slice-in-Relation.ensures))))
    c.relation_value.ensures
