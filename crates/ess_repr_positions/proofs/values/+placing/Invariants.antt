use Rattle.std.proofs.Common.{◌≡◌, map, take}
use Rattle.ess_core.specs.ValueViews.{pure_val, pure_field_val, pure_pair}
use Rattle.ess_repr_positions.specs.Placed.{placed_val, placed_field, placed_pair}
use Rattle.ess_repr_positions.proofs.values.+placing.Given as goal

abbrev pub invariant-placed-loop-val : goal.invariant-placed-loop-val
invariant-placed-loop-val l = map pure_val l.all ≡ map placed_val (take l.val-index l.vals)

abbrev pub invariant-placed_fields-loop-field : goal.invariant-placed_fields-loop-field
invariant-placed_fields-loop-field l = map pure_field_val l.all ≡ map placed_field (take l.field-index l.fields)

abbrev pub invariant-placed_pairs-loop-pair : goal.invariant-placed_pairs-loop-pair
invariant-placed_pairs-loop-pair l = map pure_pair l.all ≡ map placed_pair (take l.pair-index l.pairs)
