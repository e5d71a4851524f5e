use Rattle.std.proofs.Common.{◌≡◌, sym, ap, ◌∙◌, option_map}
use Rattle.ess_semantics.specs.declared.words.ReprKind.{ReprKind}
use Rattle.ess_semantics.specs.Domains.{msets}
use Rattle.ess_semantics.specs.Representations.{layer}
use Rattle.ess_semantics.specs.OneLayer.{inner_values}
use Rattle.ess_core.specs.ValueViews.{pure_val}
use Rattle.ess_repr_sets.proofs.MultisetCalls.{repetition_parts, counted_parts}
use Rattle.ess_repr_sets.proofs.mset_kinds.mset_parts.Goals as goal

pub returns-in_ok-items_of-in-MSetExplicitWithRepetition : goal.returns-in_ok-items_of-in-MSetExplicitWithRepetition
returns-in_ok-items_of-in-MSetExplicitWithRepetition c ks d =
    let is = c.in-MSetExplicitWithRepetition.is in
    let e : c.args.kind ≡ ReprKind.MSetExplicitWithRepetition = cc in
    repetition_parts c.in_ok-items_of-in-MSetExplicitWithRepetition.field-0 (pure_val c.args.val.now) ks d c.in_ok-items_of-in-MSetExplicitWithRepetition.ensures
    ∙ ap (λ k. option_map (λ l. inner_values l (pure_val c.args.val.now)) (layer k (msets ks d))) (sym e)

pub returns-in_ok-distinct-in-MSetExplicitWithFlags : goal.returns-in_ok-distinct-in-MSetExplicitWithFlags
returns-in_ok-distinct-in-MSetExplicitWithFlags c ks d =
    let is = c.in-MSetExplicitWithFlags.is in
    let e : c.args.kind ≡ ReprKind.MSetExplicitWithFlags = cc in
    counted_parts c.in_ok-distinct-in-MSetExplicitWithFlags.field-0 (pure_val c.args.val.now) ks d c.in_ok-distinct-in-MSetExplicitWithFlags.ensures
    ∙ ap (λ k. option_map (λ l. inner_values l (pure_val c.args.val.now)) (layer k (msets ks d))) (sym e)
