use Rattle.std.proofs.Common.{◌≡◌, sym, subst, map}
use Rattle.ess_semantics.specs.declared.words.ReprKind.{ReprKind}
use Rattle.ess_core.specs.ValueViews.{pure_val}
use Rattle.ess_eval_domains.specs.ClosedViews.{pure_attributes, pure_closed}
use Rattle.ess_repr_tables.specs.SlotViews.{pure_tables}
use Rattle.ess_repr_sets.proofs.SetCalls.{UpOfSet, occurrence_meant, dummy_meant, marker_meant, flags_meant}
use Rattle.ess_repr_sets.proofs.set_kinds.set_up.Goals as goal

pub returns-in_ok-occurrence_set-in-Occurrence : goal.returns-in_ok-occurrence_set-in-Occurrence
returns-in_ok-occurrence_set-in-Occurrence c =
    let is = c.in-Occurrence.is in
    let e : c.args.kind ≡ ReprKind.Occurrence = cc in
    subst (λ k. UpOfSet k (pure_attributes c.args.attributes.now) (pure_closed c.args.member.now) (pure_tables c.args.tables.now) (map pure_val c.args.vals) c.in_ok-occurrence_set-in-Occurrence.field-0) (sym e)
    (occurrence_meant (pure_attributes c.args.attributes.now) (pure_closed c.args.member.now) (pure_tables c.args.tables.now) (map pure_val c.args.vals) c.in_ok-occurrence_set-in-Occurrence.field-0 c.first_items.result.now c.first_items.ensures c.in_ok-occurrence_set-in-Occurrence.ensures)

pub returns-in_ok-dummy_value-in-ExplicitVarSizeWithDummy : goal.returns-in_ok-dummy_value-in-ExplicitVarSizeWithDummy
returns-in_ok-dummy_value-in-ExplicitVarSizeWithDummy c =
    let is = c.in-ExplicitVarSizeWithDummy.is in
    let e : c.args.kind ≡ ReprKind.ExplicitVarSizeWithDummy = cc in
    subst (λ k. UpOfSet k (pure_attributes c.args.attributes.now) (pure_closed c.args.member.now) (pure_tables c.args.tables.now) (map pure_val c.args.vals) c.in_ok-dummy_value-in-ExplicitVarSizeWithDummy.field-0) (sym e)
    (dummy_meant (pure_attributes c.args.attributes.now) (pure_closed c.args.member.now) (pure_tables c.args.tables.now) (map pure_val c.args.vals) c.in_ok-dummy_value-in-ExplicitVarSizeWithDummy.field-0 c.first_items-in-ExplicitVarSizeWithDummy.result.now c.first_items-in-ExplicitVarSizeWithDummy.ensures c.in_ok-dummy_value-in-ExplicitVarSizeWithDummy.ensures)

pub returns-in_ok-set_in_slots-in-ExplicitVarSizeWithMarker : goal.returns-in_ok-set_in_slots-in-ExplicitVarSizeWithMarker
returns-in_ok-set_in_slots-in-ExplicitVarSizeWithMarker c =
    let is = c.in-ExplicitVarSizeWithMarker.is in
    let e : c.args.kind ≡ ReprKind.ExplicitVarSizeWithMarker = cc in
    subst (λ k. UpOfSet k (pure_attributes c.args.attributes.now) (pure_closed c.args.member.now) (pure_tables c.args.tables.now) (map pure_val c.args.vals) c.in_ok-set_in_slots-in-ExplicitVarSizeWithMarker.field-0) (sym e)
    (marker_meant (pure_attributes c.args.attributes.now) (pure_closed c.args.member.now) (pure_tables c.args.tables.now) (map pure_val c.args.vals) c.in_ok-set_in_slots-in-ExplicitVarSizeWithMarker.field-0 c.in_ok-slots-in-ExplicitVarSizeWithMarker.slots c.in_ok-slots-in-ExplicitVarSizeWithMarker.ensures c.in_ok-set_in_slots-in-ExplicitVarSizeWithMarker.ensures)

pub returns-in_ok-set_in_slots-in-ExplicitVarSizeWithFlags : goal.returns-in_ok-set_in_slots-in-ExplicitVarSizeWithFlags
returns-in_ok-set_in_slots-in-ExplicitVarSizeWithFlags c =
    let is = c.in-ExplicitVarSizeWithFlags.is in
    let e : c.args.kind ≡ ReprKind.ExplicitVarSizeWithFlags = cc in
    subst (λ k. UpOfSet k (pure_attributes c.args.attributes.now) (pure_closed c.args.member.now) (pure_tables c.args.tables.now) (map pure_val c.args.vals) c.in_ok-set_in_slots-in-ExplicitVarSizeWithFlags.field-0) (sym e)
    (flags_meant (pure_attributes c.args.attributes.now) (pure_closed c.args.member.now) (pure_tables c.args.tables.now) (map pure_val c.args.vals) c.in_ok-set_in_slots-in-ExplicitVarSizeWithFlags.field-0 c.in_ok-slots-in-ExplicitVarSizeWithFlags.slots c.in_ok-slots-in-ExplicitVarSizeWithFlags.ensures c.in_ok-set_in_slots-in-ExplicitVarSizeWithFlags.ensures)
