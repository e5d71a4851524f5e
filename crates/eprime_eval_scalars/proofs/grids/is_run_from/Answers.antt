use Rattle.std.proofs.Common.{rules, ◌≡◌, ◌∙◌, ap, sym, refl, length, get_or, pos, ◌+ℤ◌, ℤ, arith, w64}
use mir.Val.{to_z, of_z}
use Rattle.std.proofs.lemmas.Int.{ints}
use Rattle.eprime_eval_scalars.specs.Grids.{numbers_from}
use Rattle.eprime_eval_scalars.proofs.NumberPlaces.{run_next, run_all}
use Rattle.eprime_eval_scalars.proofs.grids.is_run_from.Goals as goal

pub loop-k-preserved : goal.loop-k-preserved
loop-k-preserved c =
    let first = to_z w64 (of_z w64 c.args.first) in
    let x : ℤ = get_or c.args.numbers.now c.loop-k.k (pos 0) in
    let same : to_z w64 (of_z w64 x) ≡ x = first_of (omega (arith, ints), search rules) in
    run_next c.args.numbers.now c.loop-k.k first c.loop-k-test.true (sym same ∙ c.is_next.ensures c.if-not-is_next.false) c.loop-k.invariant

pub returns : goal.returns
returns c =
    let first = to_z w64 (of_z w64 c.args.first) in
    let e : first ≡ c.args.first = omega (arith, ints) in
    λ t. ap (λ a. numbers_from a (length c.args.numbers.now)) (sym e)
    ∙ run_all c.args.numbers.now c.loop-k.k first c.loop-k-test.false c.loop-k.auto.k-end c.loop-k.invariant
