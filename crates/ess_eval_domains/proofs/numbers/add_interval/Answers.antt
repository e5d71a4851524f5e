use Rattle.std.proofs.Common.{◌≡◌, ◌∙◌, ap, map, ◌++◌, pos, ◌+ℤ◌, ◌≤ℤ◌, w64, arith}
use mir.Val.{to_z, of_z}
use Rattle.std.proofs.lemmas.Int.{ints}
use Rattle.ess_semantics.specs.Values.{number}
use Rattle.ess_semantics.specs.Domains.{interval}
use Rattle.ess_eval_domains.proofs.RangeNumbers.{interval_more, interval_all}
use Rattle.ess_eval_domains.proofs.numbers.add_interval.Goals as goal

pub loop-number-preserved : goal.loop-number-preserved
loop-number-preserved c =
    let at = to_z w64 c.loop-number.number-bits in
    let next = to_z w64 (of_z w64 (at +ℤ pos 1)) in
    let low = to_z w64 (of_z w64 c.args.low) in
    let high = to_z w64 (of_z w64 c.args.high) in
    let is : next ≡ at +ℤ pos 1 = grind (arith, ints) in
    let there : low ≤ℤ at = c.loop-number.invariant.above in
    let above : low ≤ℤ next = grind (arith, ints) in
    let below : next ≤ℤ high = grind (arith, ints) in
    record {
      so_far = interval_more low at next _ _ _ there is c.loop-number.invariant.so_far c.in_ok-push.ensures.ok;
      above = above;
      below = below;
    }

pub returns-in_ok-push-2 : goal.returns-in_ok-push-2
returns-in_ok-push-2 c =
    let at = to_z w64 c.loop-number.number-bits in
    let low = to_z w64 (of_z w64 c.args.low) in
    let high = to_z w64 (of_z w64 c.args.high) in
    let there : low ≤ℤ at = c.loop-number.invariant.above in
    let under : at ≤ℤ high = c.loop-number.invariant.below in
    let first : low ≡ c.args.low = grind (arith, ints) in
    let is : high ≡ c.args.high = grind (arith, ints) in
    let last : at ≡ c.args.high = grind (arith, ints) in
    let up : low ≤ℤ c.args.high = grind (arith, ints) in
    interval_all low c.args.high at _ _ _ _ up last is c.loop-number.invariant.so_far c.in_ok-push-2.ensures.ok
    ∙ ap (λ z. map number c.args.numbers.now ++ interval z c.args.high) first
