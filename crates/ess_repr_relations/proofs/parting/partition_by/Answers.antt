use Rattle.std.proofs.Common.{ap, ◌∙◌, sym, map, option_map, rules, w64}
use mir.Val.{to_z, of_z}
use Rattle.std.proofs.lemmas.Int.{to_z-of_z}
use Rattle.ess_core.specs.ValueViews.{pure_val}
use Rattle.ess_semantics.specs.PartitionLayers.{partition_from_numbers}
use Rattle.ess_repr_relations.proofs.NumberedMembers.{count_is, numbers_wrong, parts_from}
use Rattle.ess_repr_relations.proofs.parting.partition_by.Goals as goal

pub returns-then-not-are_part_numbers : goal.returns-then-not-are_part_numbers
returns-then-not-are_part_numbers c =
    let count = to_z w64 (of_z w64 c.args.count) in
    numbers_wrong (map pure_val c.args.members.now) c.args.numbers.now count c.in-Ok.parts
    (count_is count c.in-Ok.parts c.in-Ok.ensures.0 c.in-Ok.ensures.1)
    (sym c.are_part_numbers.ensures ∙ c.if-not-are_part_numbers.true)
    ∙ ap (partition_from_numbers (map pure_val c.args.members.now) c.args.numbers.now) (to_z-of_z w64 c.args.count (search rules))

pub returns-in_ok-partition_value-in-Ok : goal.returns-in_ok-partition_value-in-Ok
returns-in_ok-partition_value-in-Ok c =
    let count = to_z w64 (of_z w64 c.args.count) in
    parts_from (map pure_val c.args.members.now) c.args.numbers.now count c.in-Ok.parts
    (count_is count c.in-Ok.parts c.in-Ok.ensures.0 c.in-Ok.ensures.1)
    (sym c.are_part_numbers.ensures ∙ c.if-not-are_part_numbers.false)
    c.as_slice.result.now (map (option_map pure_val) c.in_ok-sets-in-Ok.sets) (option_map pure_val c.in_ok-partition_value-in-Ok.field-0)
    (c.as_slice.ensures ∙ c.in_ok-axis-in-Ok.ensures) c.in_ok-sets-in-Ok.ensures c.in_ok-partition_value-in-Ok.ensures
    ∙ ap (partition_from_numbers (map pure_val c.args.members.now) c.args.numbers.now) (to_z-of_z w64 c.args.count (search rules))
