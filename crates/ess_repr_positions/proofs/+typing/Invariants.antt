use Rattle.std.proofs.Common.{◌≡◌, ◌+◌, map, drop}
use Rattle.ess_semantics.specs.Lists.{each_of}
use Rattle.ess_core.specs.ValueViews.{pure_val, pure_field_val, pure_pair}
use Rattle.ess_eval_domains.specs.ClosedViews.{pure_closed, pure_closeds, pure_field_closed}
use Rattle.ess_repr_positions.specs.Typed.{each_both, val_typed, field_typed, nested_typed, pair_typed, tuple_typed, part_typed}
use Rattle.ess_repr_positions.proofs.MadeRows.{ahead}
use Rattle.ess_repr_positions.proofs.Weights.{weight, weights, field_domains}
use Rattle.ess_repr_positions.proofs.+typing.Given as goal

abbrev pub invariant-matrices::each_nested-loop-val : goal.invariant-matrices::each_nested-loop-val
invariant-matrices::each_nested-loop-val l =
    each_of l.vals (nested_typed l.axes l.item) ≡ ahead (map pure_val l.all) (each_of (drop l.val-index l.vals) (nested_typed l.axes l.item))

abbrev pub invariant-parts::each-loop-i : goal.invariant-parts::each-loop-i
invariant-parts::each-loop-i l =
    each_both val_typed l.parts l.vals ≡ ahead (map pure_val l.all) (each_both val_typed (drop l.i l.parts) (drop l.i l.vals))

abbrev pub invariant-parts::each_field-loop-i : goal.invariant-parts::each_field-loop-i
invariant-parts::each_field-loop-i l =
    each_both field_typed l.fields l.vals
    ≡ ahead (map pure_field_val l.all) (each_both field_typed (drop l.i l.fields) (drop l.i l.vals))

abbrev pub invariant-parts::each_pair-loop-pair : goal.invariant-parts::each_pair-loop-pair
invariant-parts::each_pair-loop-pair l =
    each_of l.pairs (pair_typed l.from l.to) ≡ ahead (map pure_pair l.all) (each_of (drop l.pair-index l.pairs) (pair_typed l.from l.to))

abbrev pub invariant-parts::each_tuple-loop-tuple : goal.invariant-parts::each_tuple-loop-tuple
invariant-parts::each_tuple-loop-tuple l =
    each_of l.tuples (tuple_typed l.parts) ≡ ahead (map pure_val l.all) (each_of (drop l.tuple-index l.tuples) (tuple_typed l.parts))

abbrev pub invariant-parts::each_part-loop-part : goal.invariant-parts::each_part-loop-part
invariant-parts::each_part-loop-part l =
    each_of l.parts (part_typed l.member) ≡ ahead (map pure_val l.all) (each_of (drop l.part-index l.parts) (part_typed l.member))

abbrev pub decreases-types::typed : goal.decreases-types::typed
decreases-types::typed l = weight (pure_closed l.domain.now)

abbrev pub decreases-matrices::nested : goal.decreases-matrices::nested
decreases-matrices::nested l = 1 + weights (pure_closeds l.axes.now) + weight (pure_closed l.item.now)

abbrev pub decreases-matrices::matrix : goal.decreases-matrices::matrix
decreases-matrices::matrix l = 3 + weight (pure_closed l.axis.now) + weights (pure_closeds l.rest.now) + weight (pure_closed l.item.now)

abbrev pub decreases-matrices::each_nested : goal.decreases-matrices::each_nested
decreases-matrices::each_nested l = 2 + weights (pure_closeds l.axes.now) + weight (pure_closed l.item.now)

abbrev pub decreases-parts::each : goal.decreases-parts::each
decreases-parts::each l = 1 + weights (pure_closeds l.parts.now)

abbrev pub decreases-parts::each_field : goal.decreases-parts::each_field
decreases-parts::each_field l = 2 + weights (field_domains l.fields.now)

abbrev pub decreases-parts::one_field : goal.decreases-parts::one_field
decreases-parts::one_field l = 1 + weight (pure_field_closed l.field.now).1

abbrev pub decreases-parts::each_pair : goal.decreases-parts::each_pair
decreases-parts::each_pair l = 2 + weight (pure_closed l.from.now) + weight (pure_closed l.to.now)

abbrev pub decreases-parts::one_pair : goal.decreases-parts::one_pair
decreases-parts::one_pair l = 1 + weight (pure_closed l.from.now) + weight (pure_closed l.to.now)

abbrev pub decreases-parts::each_tuple : goal.decreases-parts::each_tuple
decreases-parts::each_tuple l = 3 + weights (pure_closeds l.parts.now)

abbrev pub decreases-parts::one_tuple : goal.decreases-parts::one_tuple
decreases-parts::one_tuple l = 2 + weights (pure_closeds l.parts.now)

abbrev pub decreases-parts::each_part : goal.decreases-parts::each_part
decreases-parts::each_part l = 4 + weight (pure_closed l.member.now)

abbrev pub decreases-parts::one_part : goal.decreases-parts::one_part
decreases-parts::one_part l = 3 + weight (pure_closed l.member.now)
