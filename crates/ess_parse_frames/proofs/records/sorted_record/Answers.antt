use Rattle.std.proofs.Common.{rules, is_lt}
use Rattle.std.proofs.lemmas.Fn.{always_returns_same}
use Rattle.ess_semantics.specs.Order.{order_text}
use Rattle.ess_core.specs.declared.domains.FieldDom.{FieldDom}
use Rattle.ess_parse_frames.proofs.RecordFields.{field_name, fields-order, record-sorted}
use Rattle.ess_parse_frames.proofs.records.sorted_record.Goals as goal

pub returns : goal.returns
returns c =
    let s = c.in_ok-sort_by.ensures in
    let up = s.sorted (λ (a b : FieldDom). is_lt (order_text (field_name a) (field_name b))) fields-order (always_returns_same _ _ _ (λ a r f k. search rules)) in
    let kept = s.stable (λ (a b : FieldDom). is_lt (order_text (field_name a) (field_name b))) fields-order (always_returns_same _ _ _ (λ a r f k. search rules)) in
    rw (c.from_vec.ensures, ← c.into_vec-fields.ensures) (record-sorted _ _ up kept)
