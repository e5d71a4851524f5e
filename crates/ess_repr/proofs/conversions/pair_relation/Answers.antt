use Rattle.std.proofs.Common.{◌≡◌, ◌∷◌, [], map, option_map}
use Rattle.std.proofs.lemmas.Result.{IfOk-weaker}
use Rattle.ess_core.specs.declared.domains.Dom.TheVariants as variant
use Rattle.ess_core.specs.TreeViews.{words_of, within, exs_of, pure_attr, pure_ex, pure_dom}
use Rattle.ess_repr_laws.specs.ViewParts.{pair_relation_dom}
use Rattle.ess_repr_declare_laws.specs.SizeTerms.{size_terms}
use Rattle.ess_repr.proofs.SizedRows.{pairs_made}
use Rattle.ess_repr.proofs.conversions.pair_relation.Goals as goal

pub returns : goal.returns
returns c =
    let sizes = c.in_ok-sizes.sizes in
    let parts = c.in_ok-parts.parts in
    let ms = words_of (map pure_attr c.args.attrs.now) in
    let es = exs_of (within (map pure_attr c.args.attrs.now)) in
    IfOk-weaker c.from_array.result (λ ds. ds ≡ variant.Relation sizes parts ∷ [])
    (λ ds. map pure_dom ds ≡ pair_relation_dom size_terms ms es (pure_dom c.args.from.now) (pure_dom c.args.to.now) ∷ [])
    (λ ds e. pairs_made sizes ds parts c.args.from.now c.args.to.now ms es
    (option_map pure_ex c.in_ok-size.size) (option_map pure_ex c.in_ok-least.least) (option_map pure_ex c.in_ok-greatest.greatest)
    e c.in_ok-parts.ensures c.in_ok-sizes.ensures.marks c.in_ok-sizes.ensures.numbers
    c.in_ok-size.ensures c.in_ok-least.ensures c.in_ok-greatest.ensures) c.from_array.ensures
