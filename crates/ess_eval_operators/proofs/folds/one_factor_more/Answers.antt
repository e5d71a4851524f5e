use Rattle.std.proofs.Common.{◌≡◌, ap, sym, ◌∙◌, ◌*ℤ◌, w64, arith}
use mir.Val.{to_z, of_z}
use Rattle.std.proofs.lemmas.Int.{ints}
use Rattle.ess_semantics.specs.Large.{in_64_bits}
use Rattle.ess_eval_operators.proofs.Products.{product_outside}
use Rattle.ess_eval_operators.proofs.folds.one_factor_more.Goals as goal

pub returns-clause-big : goal.returns-clause-big
returns-clause-big c =
    let n : to_z w64 (of_z w64 c.number_in.result) ≡ c.number_in.result = omega (arith, ints) in
    let p : to_z w64 (of_z w64 c.args.product) ≡ c.args.product = omega (arith, ints) in
    λ e. product_outside c.args.items.now c.args.at c.index-items-at.result c.args.product
    c.requires.within c.index-items-at.is c.requires.behind c.requires.none
    (ap (λ m. in_64_bits (m *ℤ c.args.product)) (sym c.number_in.ensures) ∙ ap (λ m. in_64_bits (m *ℤ c.args.product)) (sym n)
    ∙ ap (λ q. in_64_bits (to_z w64 (of_z w64 c.number_in.result) *ℤ q)) (sym p) ∙ c.times.ensures.big e)
