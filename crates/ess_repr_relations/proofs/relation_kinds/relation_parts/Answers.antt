use Rattle.std.proofs.Common.{◌≡◌, sym, ap, ◌∙◌, option_map}
use Rattle.ess_semantics.specs.declared.words.ReprKind.{ReprKind}
use Rattle.ess_semantics.specs.Domains.{relations}
use Rattle.ess_semantics.specs.Representations.{layer}
use Rattle.ess_semantics.specs.OneLayer.{inner_values}
use Rattle.ess_core.specs.ValueViews.{pure_val}
use Rattle.ess_repr_relations.proofs.RelationCalls.{set_parts}
use Rattle.ess_repr_relations.proofs.relation_kinds.relation_parts.Goals as goal

pub returns-in_ok-as_set-in-RelationAsSet : goal.returns-in_ok-as_set-in-RelationAsSet
returns-in_ok-as_set-in-RelationAsSet c ks d =
    let is = c.in-RelationAsSet.is in
    let e : c.args.kind ≡ ReprKind.RelationAsSet = cc in
    set_parts c.in_ok-as_set-in-RelationAsSet.field-0 (pure_val c.args.val.now) c.in_ok-as_set-in-RelationAsSet.ensures ks d
    ∙ ap (λ k. option_map (λ l. inner_values l (pure_val c.args.val.now)) (layer k (relations ks d))) (sym e)
