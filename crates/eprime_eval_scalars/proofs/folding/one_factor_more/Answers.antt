use Rattle.std.proofs.Common.{◌≡◌, ap, sym, ◌∙◌, ◌*ℤ◌, w64, arith}
use mir.Val.{to_z, of_z}
use Rattle.std.proofs.lemmas.Int.{ints}
use Rattle.ess_semantics.specs.Large.{in_64_bits}
use Rattle.eprime_eval_scalars.proofs.Products.{product_outside_at}
use Rattle.eprime_eval_scalars.proofs.folding.one_factor_more.Goals as goal

pub returns-clause-big : goal.returns-clause-big
returns-clause-big c =
    let n : to_z w64 (of_z w64 c.number_at.result) ≡ c.number_at.result = omega (arith, ints) in
    let p : to_z w64 (of_z w64 c.args.product) ≡ c.args.product = omega (arith, ints) in
    λ e. product_outside_at c.args.items.now c.args.at _ c.number_at.result c.args.product
    c.requires.within c.number_at.ensures c.requires.behind c.requires.none
    (ap (λ m. in_64_bits (m *ℤ c.args.product)) (sym n)
    ∙ ap (λ q. in_64_bits (to_z w64 (of_z w64 c.number_at.result) *ℤ q)) (sym p) ∙ c.times.ensures.big e)
