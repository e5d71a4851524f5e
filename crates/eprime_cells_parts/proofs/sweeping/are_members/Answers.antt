use Rattle.std.proofs.Common.{◌≡◌, rules, sym, ap, ◌∙◌, ℤ, pos, ◌+◌, ◌+ℤ◌, ◌-ℤ◌, ◌≤ℤ◌, None, Some, get_or, drop, w64, arith}
use Rattle.std.specs.Int.{w128}
use Rattle.std.specs.Option.{option_copied}
use mir.Val.{to_z, of_z}
use Rattle.std.proofs.lemmas.Int.{ints}
use Rattle.ess_semantics.specs.Numbers.{natural}
use Rattle.ess_semantics.specs.Order.{same_ints}
use Rattle.eprime_cells_parts.specs.declared.sweeping.Ends.{Ends}
use Rattle.eprime_cells_parts.specs.Sweeping.{up_from, greater, swept, behind}
use Rattle.eprime_cells_parts.proofs.RunsInOrder.{swept_stop, swept_more, greater_within}
use Rattle.eprime_cells_parts.proofs.sweeping.are_members.Goals as goal

pub returns-in-None : goal.returns-in-None
returns-in-None c =
    let r : Ends = get_or c.args.ranges.now c.loop-range.range-index (record { from = pos 0; to = pos 0 }) in
    let k : ℤ = to_z w128 c.loop-range.next-bits in
    let first : to_z w64 (of_z w64 c.args.first) ≡ c.args.first = omega (arith, ints) in
    let f : to_z w64 (of_z w64 r.from) ≡ r.from = first_of (omega (arith, ints), search rules) in
    let t : to_z w64 (of_z w64 r.to) ≡ r.to = first_of (omega (arith, ints), search rules) in
    let low : to_z w128 (of_z w128 (to_z w64 (of_z w64 r.from))) ≡ r.from = omega (arith, ints, f) in
    let end : to_z w128 (of_z w128 (to_z w128 (of_z w128 (to_z w64 (of_z w64 r.to))) +ℤ pos 1)) ≡ r.to +ℤ pos 1 = omega (arith, ints, t) in
    let g : to_z w128 (of_z w128 c.greater.result) ≡ c.greater.result = omega (arith, ints) in
    let from : to_z w128 (of_z w128 c.greater.result) ≡ greater k r.from = g ∙ c.greater.ensures ∙ ap (greater k) low in
    let stopped : None ≡ behind (up_from (greater k r.from) (natural ((r.to +ℤ pos 1) -ℤ greater k r.from))) c.loop-range.left.now =
    sym (ap option_copied c.in-None.is) ∙ c.behind_run.ensures
    ∙ ap (λ e. behind (up_from (to_z w128 (of_z w128 c.greater.result)) (natural (e -ℤ to_z w128 (of_z w128 c.greater.result))))
    c.loop-range.left.now) end
    ∙ ap (λ a. behind (up_from a (natural ((r.to +ℤ pos 1) -ℤ a))) c.loop-range.left.now) from in
    swept_stop (to_z w64 (of_z w64 c.args.first)) c.args.ranges.now c.args.axis.now c.loop-range.range-index k c.loop-range.left.now r
    c.loop-range.invariant c.loop-range-test.true (search rules) stopped
    ∙ ap (λ a. same_ints (swept a c.args.ranges.now) c.args.axis.now) first

pub loop-range-preserved : goal.loop-range-preserved
loop-range-preserved c =
    let r : Ends = get_or c.args.ranges.now c.loop-range.range-index (record { from = pos 0; to = pos 0 }) in
    let k : ℤ = to_z w128 c.loop-range.next-bits in
    let f : to_z w64 (of_z w64 r.from) ≡ r.from = first_of (omega (arith, ints), search rules) in
    let t : to_z w64 (of_z w64 r.to) ≡ r.to = first_of (omega (arith, ints), search rules) in
    let low : to_z w128 (of_z w128 (to_z w64 (of_z w64 r.from))) ≡ r.from = omega (arith, ints, f) in
    let end : to_z w128 (of_z w128 (to_z w128 (of_z w128 (to_z w64 (of_z w64 r.to))) +ℤ pos 1)) ≡ r.to +ℤ pos 1 = omega (arith, ints, t) in
    let g : to_z w128 (of_z w128 c.greater.result) ≡ c.greater.result = omega (arith, ints) in
    let from : to_z w128 (of_z w128 c.greater.result) ≡ greater k r.from = g ∙ c.greater.ensures ∙ ap (greater k) low in
    let n : to_z w128 (of_z w128 c.greater-next.result) ≡ c.greater-next.result = omega (arith, ints) in
    let next : to_z w128 (of_z w128 c.greater-next.result) ≡ greater k (r.to +ℤ pos 1) = n ∙ c.greater-next.ensures ∙ ap (greater k) end in
    let going : Some c.in-Some.rest.now ≡ behind (up_from (greater k r.from) (natural ((r.to +ℤ pos 1) -ℤ greater k r.from)))
    c.loop-range.left.now =
    sym (ap option_copied c.in-Some.is) ∙ c.behind_run.ensures
    ∙ ap (λ e. behind (up_from (to_z w128 (of_z w128 c.greater.result)) (natural (e -ℤ to_z w128 (of_z w128 c.greater.result))))
    c.loop-range.left.now) end
    ∙ ap (λ a. behind (up_from a (natural ((r.to +ℤ pos 1) -ℤ a))) c.loop-range.left.now) from in
    let top : (r.to +ℤ pos 1) ≤ℤ pos 9223372036854775808 = omega (arith, ints, t) in
    let bounds = greater_within k (r.to +ℤ pos 1) c.loop-range.invariant.low c.loop-range.invariant.high top in
    record {
      same =
          swept_more (to_z w64 (of_z w64 c.args.first)) c.args.ranges.now c.args.axis.now c.loop-range.range-index k c.loop-range.left.now
          c.in-Some.rest.now r c.loop-range.invariant c.loop-range-test.true (search rules) going
          ∙ ap (λ m. same_ints (swept m (drop (c.loop-range.range-index + 1) c.args.ranges.now)) c.in-Some.rest.now) (sym next);
      low = let b = bounds.0 in omega (arith, ints, b, next);
      high = let b = bounds.1 in omega (arith, ints, b, next);
    }
