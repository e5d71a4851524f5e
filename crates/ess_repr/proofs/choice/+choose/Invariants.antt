use Rattle.std.proofs.Common.{◌≡◌, map, take}
use Rattle.ess_core.specs.TreeViews.{pure_repr}
use Rattle.ess_repr.proofs.Chosen.{for_part, for_field}
use Rattle.ess_repr.proofs.choice.+choose.Given as goal

abbrev pub invariant-chosen_parts-loop-part : goal.invariant-chosen_parts-loop-part
invariant-chosen_parts-loop-part l = map pure_repr l.chosen ≡ map for_part (take l.part-index l.parts)

abbrev pub invariant-chosen_fields-loop-field : goal.invariant-chosen_fields-loop-field
invariant-chosen_fields-loop-field l = map pure_repr l.chosen ≡ map for_field (take l.field-index l.fields)
