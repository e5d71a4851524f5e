use Rattle.std.proofs.Common.{◌≡◌, refl, pos, ◌+ℤ◌, ◌≤ℤ◌, w64, arith}
use mir.Val.{to_z, of_z}
use Rattle.std.proofs.lemmas.Int.{ints}
use Rattle.ess_values.proofs.IndexLemmas.{interval_step, interval_last}
use Rattle.ess_values.proofs.literals.index.push_interval.Goals as goal

pub loop-number-preserved : goal.loop-number-preserved
loop-number-preserved c =
    let at = to_z w64 c.loop-number.number-bits in
    let next = to_z w64 (of_z w64 (at +ℤ pos 1)) in
    let is : next ≡ at +ℤ pos 1 = grind (arith, ints) in
    let within : next ≤ℤ c.args.span.high = grind (arith, ints) in
    record {
      whole = interval_step at next _ c.args.span.high _ _ _ c.loop-number.invariant.within c.loop-number.invariant.whole c.in_ok-push.ensures.ok refl is;
      within = within;
    }

pub returns : goal.returns
returns c =
    let at = to_z w64 c.loop-number.number-bits in
    let last : at ≡ c.args.span.high = grind (arith, ints) in
    let is : to_z w64 (of_z w64 c.args.span.high) ≡ c.args.span.high = grind (arith, ints) in
    interval_last at _ c.args.span.high _ _ _ last c.loop-number.invariant.whole c.in_ok-push-2.ensures.ok is
