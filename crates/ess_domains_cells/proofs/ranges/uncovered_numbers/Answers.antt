use Rattle.std.proofs.Common.{◌≡◌, sym, ap, ◌∙◌, ◌+◌, map, false, is_some, Some, None, pos, ◌+ℤ◌, ◌≤ℤ◌, ◌<ℤ◌, w64, arith}
use mir.Val.{to_z, of_z}
use Rattle.std.proofs.lemmas.Int.{ints}
use Rattle.ess_eval_domains.specs.ClosedViews.{pure_span}
use Rattle.ess_domains_cells.specs.Kept.{kept}
use Rattle.ess_domains_cells.specs.Uncovered.{uncovered, distance}
use Rattle.ess_domains_cells.specs.Sweeps.{end_of}
use Rattle.ess_domains_cells.proofs.KeptNumbers.{kept_twice}
use Rattle.ess_domains_cells.proofs.RangeSweeps.{walk_covered, walk_end, walk_uncovered, walk_on, walk_within, walk_up, walk_free, walk_shorter}
use Rattle.ess_domains_cells.proofs.ranges.uncovered_numbers.Goals as goal

pub returns-then-end-high : goal.returns-then-end-high
returns-then-end-high c =
    let ss = map pure_span c.args.spans.now in
    let low = to_z w64 (of_z w64 c.args.low) in
    let high = to_z w64 (of_z w64 c.args.high) in
    let at = to_z w64 c.loop-at.at-bits in
    let lows : low ≡ c.args.low = grind (arith, ints) in
    let highs : high ≡ c.args.high = grind (arith, ints) in
    let over : high ≤ℤ c.in-Some.end = grind (arith, ints) in
    let found : Some c.in-Some.end ≡ end_of ss at = sym c.in-Some.is ∙ c.end_of.ensures in
    walk_end ss at c.in-Some.end high c.loop-at.count (uncovered ss low (distance low high)) c.requires found over c.loop-at.invariant.counted c.loop-at.invariant.so_far
    ∙ ap (λ z. kept (uncovered ss z (distance z high))) lows ∙ ap (λ z. kept (uncovered ss c.args.low (distance c.args.low z))) highs

pub loop-at-preserved-in-Some : goal.loop-at-preserved-in-Some
loop-at-preserved-in-Some c =
    let ss = map pure_span c.args.spans.now in
    let low = to_z w64 (of_z w64 c.args.low) in
    let high = to_z w64 (of_z w64 c.args.high) in
    let at = to_z w64 c.loop-at.at-bits in
    let next = to_z w64 (of_z w64 (to_z w64 (of_z w64 c.in-Some.end) +ℤ pos 1)) in
    let is : next ≡ c.in-Some.end +ℤ pos 1 = grind (arith, ints) in
    let below : next ≤ℤ high = grind (arith, ints) in
    let found : Some c.in-Some.end ≡ end_of ss at = sym c.in-Some.is ∙ c.end_of.ensures in
    record {
      so_far = walk_covered ss at c.in-Some.end next high c.loop-at.count (uncovered ss low (distance low high)) c.requires found is c.loop-at.invariant.so_far;
      counted = c.loop-at.invariant.counted;
      below = below;
    }

pub loop-at-smaller-in-Some : goal.loop-at-smaller-in-Some
loop-at-smaller-in-Some c =
    let ss = map pure_span c.args.spans.now in
    let high = to_z w64 (of_z w64 c.args.high) in
    let at = to_z w64 c.loop-at.at-bits in
    let next = to_z w64 (of_z w64 (to_z w64 (of_z w64 c.in-Some.end) +ℤ pos 1)) in
    let found : Some c.in-Some.end ≡ end_of ss at = sym c.in-Some.is ∙ c.end_of.ensures in
    let up : at ≤ℤ c.in-Some.end = walk_up ss at c.in-Some.end c.requires found in
    let is : next ≡ c.in-Some.end +ℤ pos 1 = grind (arith, ints) in
    let on : at <ℤ next = omega (arith, ints) in
    let below : next ≤ℤ high = grind (arith, ints) in
    walk_shorter at next high on below

pub steps-requires : goal.steps-requires
steps-requires c =
    let ss = map pure_span c.args.spans.now in
    let high = to_z w64 (of_z w64 c.args.high) in
    let at = to_z w64 c.loop-at.at-bits in
    let before : at <ℤ high = grind (arith, ints) in
    let on : at <ℤ c.next_start-next.result = walk_on ss at c.next_start-next.result high c.next_start-next.ensures before in
    let within : c.next_start-next.result ≤ℤ high = walk_within ss at c.next_start-next.result high c.next_start-next.ensures in
    grind (arith, ints)

pub loop-at-smaller : goal.loop-at-smaller
loop-at-smaller c =
    let ss = map pure_span c.args.spans.now in
    let high = to_z w64 (of_z w64 c.args.high) in
    let at = to_z w64 c.loop-at.at-bits in
    let next = to_z w64 (of_z w64 c.next_start-next.result) in
    let before : at <ℤ high = grind (arith, ints) in
    let on : at <ℤ c.next_start-next.result = walk_on ss at c.next_start-next.result high c.next_start-next.ensures before in
    let within : c.next_start-next.result ≤ℤ high = walk_within ss at c.next_start-next.result high c.next_start-next.ensures in
    let is : next ≡ c.next_start-next.result = grind (arith, ints) in
    walk_shorter at next high (omega (arith, ints)) (omega (arith, ints))

pub loop-at-preserved : goal.loop-at-preserved
loop-at-preserved c =
    let ss = map pure_span c.args.spans.now in
    let low = to_z w64 (of_z w64 c.args.low) in
    let high = to_z w64 (of_z w64 c.args.high) in
    let at = to_z w64 c.loop-at.at-bits in
    let next = to_z w64 (of_z w64 c.next_start-next.result) in
    let before : at <ℤ high = grind (arith, ints) in
    let on : at <ℤ c.next_start-next.result = walk_on ss at c.next_start-next.result high c.next_start-next.ensures before in
    let within : c.next_start-next.result ≤ℤ high = walk_within ss at c.next_start-next.result high c.next_start-next.ensures in
    let is : next ≡ c.next_start-next.result = grind (arith, ints) in
    let found : None ≡ end_of ss at = sym c.in-None.is ∙ c.end_of.ensures in
    let added : c.sum-count.result ≡ kept (c.loop-at.count + c.steps.result) = c.sum-count.ensures in
    let twice : kept (kept (c.loop-at.count + c.steps.result)) ≡ kept (c.loop-at.count + c.steps.result) = kept_twice (c.loop-at.count + c.steps.result) in
    record {
      so_far = walk_uncovered ss at next high c.steps.result c.loop-at.count c.sum-count.result (uncovered ss low (distance low high)) c.requires found (is ∙ c.next_start-next.ensures) before c.steps.ensures added c.loop-at.invariant.so_far;
      counted = ap kept added ∙ twice ∙ sym added;
      below = omega (arith, ints);
    }

pub returns : goal.returns
returns c =
    let ss = map pure_span c.args.spans.now in
    let low = to_z w64 (of_z w64 c.args.low) in
    let high = to_z w64 (of_z w64 c.args.high) in
    let at = to_z w64 c.loop-at.at-bits in
    let lows : low ≡ c.args.low = grind (arith, ints) in
    let highs : high ≡ c.args.high = grind (arith, ints) in
    let last : at ≡ high = grind (arith, ints) in
    let free : is_some (end_of ss high) ≡ false = ap is_some (sym c.end_of-2.ensures) ∙ sym c.is_some.ensures ∙ c.if-is_some.false in
    walk_free ss at high c.loop-at.count c.sum.result (uncovered ss low (distance low high)) last c.requires free c.sum.ensures c.loop-at.invariant.so_far
    ∙ ap (λ z. kept (uncovered ss z (distance z high))) lows ∙ ap (λ z. kept (uncovered ss c.args.low (distance c.args.low z))) highs
