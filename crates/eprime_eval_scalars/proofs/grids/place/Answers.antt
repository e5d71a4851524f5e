use Rattle.std.proofs.Common.{◌≡◌, ◌<◌, ◌+ℤ◌, ◌-ℤ◌, ◌≤ℤ◌, ◌<ℤ◌, pos, sym, ap, ◌∙◌, Some, None, arith, w64}
use mir.Syntax.{w128}
use mir.Val.{to_z, of_z}
use Rattle.std.specs.Prelude.{nat_abs}
use Rattle.std.proofs.lemmas.Int.{ints}
use Rattle.eprime_eval_scalars.specs.Grids.{axis_numbers, place_of}
use Rattle.eprime_eval_scalars.proofs.NumberPlaces.{place_below, place_beyond, place_within, size-is}
use Rattle.eprime_eval_scalars.proofs.grids.place.Goals as goal

pub returns-then-place-lt0 : goal.returns-then-place-lt0
returns-then-place-lt0 c =
    let below : c.args.number <ℤ c.in-Run.first = omega (arith, ints) in
    place_below c.in-Run.first c.in-Run.count c.args.number below ∙ ap (λ a. place_of (axis_numbers a) c.args.number) (sym c.in-Run.is)

pub returns-then-place-count : goal.returns-then-place-count
returns-then-place-count c =
    let beyond : pos c.in-Run.count ≤ℤ (c.args.number -ℤ c.in-Run.first) = omega (arith, ints) in
    place_beyond c.in-Run.first c.in-Run.count c.args.number beyond ∙ ap (λ a. place_of (axis_numbers a) c.args.number) (sym c.in-Run.is)

pub returns-else-place-count : goal.returns-else-place-count
returns-else-place-count c =
    let z = to_z w128 (of_z w128 (to_z w128 (of_z w128 (to_z w64 (of_z w64 c.args.number))) -ℤ to_z w128 (of_z w128 (to_z w64 (of_z w64 c.in-Run.first))))) in
    let is : z ≡ c.args.number -ℤ c.in-Run.first = omega (arith, ints) in
    let low : pos 0 ≤ℤ z = omega (arith, ints) in
    let high : z <ℤ pos c.in-Run.count = omega (arith, ints) in
    let size = size-is z low in
    let l : nat_abs z < c.in-Run.count = omega (arith, ints, size, high) in
    let e : c.args.number ≡ c.in-Run.first +ℤ pos (nat_abs z) = omega (arith, ints, size, is) in
    place_within c.in-Run.first c.in-Run.count (nat_abs z) c.args.number l e ∙ ap (λ a. place_of (axis_numbers a) c.args.number) (sym c.in-Run.is)
