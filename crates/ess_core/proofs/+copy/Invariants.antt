use Rattle.std.proofs.Common.{◌≡◌, take}
use Rattle.ess_core.proofs.+copy.Given as goal

abbrev pub invariant-copies::domains::copy_doms-loop-dom : goal.invariant-copies::domains::copy_doms-loop-dom
invariant-copies::domains::copy_doms-loop-dom l = l.copies ≡ take l.dom-index l.dom-items

abbrev pub invariant-copies::domains::copy_fields-loop-field : goal.invariant-copies::domains::copy_fields-loop-field
invariant-copies::domains::copy_fields-loop-field l = l.copies ≡ take l.field-index l.field-items

abbrev pub invariant-copies::domains::copy_ranges-loop-range : goal.invariant-copies::domains::copy_ranges-loop-range
invariant-copies::domains::copy_ranges-loop-range l = l.copies ≡ take l.range-index l.range-items

abbrev pub invariant-copies::domains::copy_attrs-loop-attr : goal.invariant-copies::domains::copy_attrs-loop-attr
invariant-copies::domains::copy_attrs-loop-attr l = l.copies ≡ take l.attr-index l.attr-items

abbrev pub invariant-copies::expressions::copy_exs-loop-ex : goal.invariant-copies::expressions::copy_exs-loop-ex
invariant-copies::expressions::copy_exs-loop-ex l = l.copies ≡ take l.ex-index l.ex-items

abbrev pub invariant-copies::expressions::copy_steps-loop-step : goal.invariant-copies::expressions::copy_steps-loop-step
invariant-copies::expressions::copy_steps-loop-step l = l.copies ≡ take l.step-index l.step-items

abbrev pub invariant-copies::expressions::copy_fields-loop-field : goal.invariant-copies::expressions::copy_fields-loop-field
invariant-copies::expressions::copy_fields-loop-field l = l.copies ≡ take l.field-index l.field-items

abbrev pub invariant-copies::expressions::copy_pairs-loop-pair : goal.invariant-copies::expressions::copy_pairs-loop-pair
invariant-copies::expressions::copy_pairs-loop-pair l = l.copies ≡ take l.pair-index l.pair-items

abbrev pub invariant-copies::expressions::copy_gens-loop-item : goal.invariant-copies::expressions::copy_gens-loop-item
invariant-copies::expressions::copy_gens-loop-item l = l.copies ≡ take l.item-index l.item-items
