use Rattle.std.proofs.Common.{◌≡◌, rules, ℤ, pos, ◌-ℤ◌, get_or, arith}
use Rattle.std.specs.Int.{w128}
use mir.Val.{to_z, of_z}
use Rattle.std.proofs.lemmas.Int.{ints}
use Rattle.eprime_cells_parts.proofs.RunsInOrder.{run_more}
use Rattle.eprime_cells_parts.proofs.sweeping.is_run.Goals as goal

pub loop-place-preserved : goal.loop-place-preserved
loop-place-preserved c =
    let first = to_z w128 (of_z w128 c.args.first) in
    let e : first ≡ c.args.first = omega (arith, ints) in
    let x : ℤ = get_or c.args.numbers.now c.loop-place.place (pos 0) in
    let d : x -ℤ first ≡ pos c.loop-place.place = grind (arith, ints) in
    run_more first c.args.numbers.now c.loop-place.place x c.loop-place.invariant c.loop-place-test.true (search rules) d
