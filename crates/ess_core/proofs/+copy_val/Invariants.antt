use Rattle.std.proofs.Common.{◌≡◌, take}
use Rattle.ess_core.proofs.+copy_val.Given as goal

abbrev pub invariant-copies::values::copy_vals-loop-val : goal.invariant-copies::values::copy_vals-loop-val
invariant-copies::values::copy_vals-loop-val l = l.copies ≡ take l.val-index l.val-items

abbrev pub invariant-copies::values::copy_fields-loop-field : goal.invariant-copies::values::copy_fields-loop-field
invariant-copies::values::copy_fields-loop-field l = l.copies ≡ take l.field-index l.field-items

abbrev pub invariant-copies::values::copy_pairs-loop-pair : goal.invariant-copies::values::copy_pairs-loop-pair
invariant-copies::values::copy_pairs-loop-pair l = l.copies ≡ take l.pair-index l.pair-items
