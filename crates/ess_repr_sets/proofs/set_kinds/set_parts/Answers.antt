use Rattle.std.proofs.Common.{◌≡◌, sym, ap, ◌∙◌, option_map}
use Rattle.ess_semantics.specs.declared.words.ReprKind.{ReprKind}
use Rattle.ess_semantics.specs.Domains.{sets}
use Rattle.ess_semantics.specs.Representations.{layer}
use Rattle.ess_semantics.specs.OneLayer.{inner_values}
use Rattle.ess_core.specs.ValueViews.{pure_val}
use Rattle.ess_repr_sets.proofs.SetCalls.{explicit_parts, marker_parts, flags_parts}
use Rattle.ess_repr_sets.proofs.set_kinds.set_parts.Goals as goal

pub returns-in_ok-items_of-in-Explicit : goal.returns-in_ok-items_of-in-Explicit
returns-in_ok-items_of-in-Explicit c ks d =
    let is = c.in-Explicit.is in
    let e : c.args.kind ≡ ReprKind.Explicit = cc in
    explicit_parts c.in_ok-items_of-in-Explicit.field-0 (pure_val c.args.val.now) c.in_ok-items_of-in-Explicit.ensures ks d
    ∙ ap (λ k. option_map (λ l. inner_values l (pure_val c.args.val.now)) (layer k (sets ks d))) (sym e)

pub returns-in_ok-items_of-in-ExplicitVarSizeWithMarker : goal.returns-in_ok-items_of-in-ExplicitVarSizeWithMarker
returns-in_ok-items_of-in-ExplicitVarSizeWithMarker c ks d =
    let is = c.in-ExplicitVarSizeWithMarker.is in
    let e : c.args.kind ≡ ReprKind.ExplicitVarSizeWithMarker = cc in
    marker_parts c.in_ok-items_of-in-ExplicitVarSizeWithMarker.field-0 (pure_val c.args.val.now) c.in_ok-items_of-in-ExplicitVarSizeWithMarker.ensures ks d
    ∙ ap (λ k. option_map (λ l. inner_values l (pure_val c.args.val.now)) (layer k (sets ks d))) (sym e)

pub returns-in_ok-items_of-in-ExplicitVarSizeWithFlags : goal.returns-in_ok-items_of-in-ExplicitVarSizeWithFlags
returns-in_ok-items_of-in-ExplicitVarSizeWithFlags c ks d =
    let is = c.in-ExplicitVarSizeWithFlags.is in
    let e : c.args.kind ≡ ReprKind.ExplicitVarSizeWithFlags = cc in
    flags_parts c.in_ok-items_of-in-ExplicitVarSizeWithFlags.field-0 (pure_val c.args.val.now) c.in_ok-items_of-in-ExplicitVarSizeWithFlags.ensures ks d
    ∙ ap (λ k. option_map (λ l. inner_values l (pure_val c.args.val.now)) (layer k (sets ks d))) (sym e)
