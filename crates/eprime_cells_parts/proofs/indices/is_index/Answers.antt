use Rattle.std.proofs.Common.{◌≡◌, rules, sym, ap, ◌∙◌, ℤ, Some, None, slice_get, w64, arith}
use Rattle.std.specs.Option.{option_copied}
use mir.Val.{to_z, of_z}
use Rattle.std.proofs.lemmas.Int.{ints}
use Rattle.ess_semantics.specs.Order.{same_ints}
use Rattle.eprime_cells_parts.specs.Sweeping.{swept}
use Rattle.eprime_cells_parts.proofs.SweptMembers.{index_swept, index_empty}
use Rattle.eprime_cells_parts.proofs.indices.is_index.Goals as goal

pub returns-in-Some : goal.returns-in-Some
returns-in-Some c =
    let from : ℤ = c.in-Some.lowest.now.from in
    let same : to_z w64 (of_z w64 from) ≡ from = first_of (omega (arith, ints), search rules) in
    let first : slice_get c.in_ok-ranges.ranges 0 ≡ Some c.in-Some.lowest.now = sym c.first.ensures ∙ ap option_copied c.in-Some.is in
    index_swept c.args.axis.now c.args.ranges.now c.in_ok-all_ends.field-0 c.in_ok-ranges.ranges c.in-Some.lowest.now
    c.in_ok-all_ends.ensures c.in_ok-ranges.ensures.same c.in_ok-ranges.ensures.rising first
    ∙ ap (λ a. same_ints (swept a c.in_ok-ranges.ranges) c.args.axis.now) (sym same)
    ∙ ap (λ rs. same_ints (swept (to_z w64 (of_z w64 from)) rs) c.args.axis.now) (sym c.as_slice.ensures)
    ∙ sym c.are_members.ensures

pub returns : goal.returns
returns c =
    let none : slice_get c.in_ok-ranges.ranges 0 ≡ None = sym c.first.ensures ∙ ap option_copied c.in-None.is in
    index_empty c.args.axis.now c.args.ranges.now c.in_ok-all_ends.field-0 c.in_ok-ranges.ranges c.in_ok-all_ends.ensures
    c.in_ok-ranges.ensures.same none
