use Rattle.std.proofs.Common.{◌≡◌, ◌+◌, length, slice_get, drop}
use Rattle.ess_core_parts.specs.Numbered.{row}
use Rattle.ess_core_parts.specs.Parts.{parted_dom, parted_field_dom}
use Rattle.ess_core_parts.proofs.domains.+part.Given as goal

abbrev pub invariant-part_of_doms-loop-dom : goal.invariant-part_of_doms-loop-dom
invariant-part_of_doms-loop-dom l =
    (slice_get (row parted_dom l.dom-items).parts l.k ≡ slice_get (row parted_dom (drop l.dom-index l.dom-items)).parts l.past)
    × (l.k + length (row parted_dom (drop l.dom-index l.dom-items)).parts ≡ l.past + length (row parted_dom l.dom-items).parts)

abbrev pub invariant-part_of_fields-loop-field : goal.invariant-part_of_fields-loop-field
invariant-part_of_fields-loop-field l =
    (slice_get (row parted_field_dom l.field-items).parts l.k ≡ slice_get (row parted_field_dom (drop l.field-index l.field-items)).parts l.past)
    × (l.k + length (row parted_field_dom (drop l.field-index l.field-items)).parts ≡ l.past + length (row parted_field_dom l.field-items).parts)
