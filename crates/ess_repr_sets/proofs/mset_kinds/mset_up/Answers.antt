use Rattle.std.proofs.Common.{◌≡◌, sym, subst, map}
use Rattle.ess_semantics.specs.declared.words.ReprKind.{ReprKind}
use Rattle.ess_core.specs.ValueViews.{pure_val}
use Rattle.ess_eval_domains.specs.ClosedViews.{pure_attributes, pure_closed}
use Rattle.ess_repr_tables.specs.SlotViews.{pure_tables}
use Rattle.ess_repr_sets.proofs.MultisetCalls.{UpOfMultiset, counts_meant, repetition_meant, counted_meant}
use Rattle.ess_repr_sets.proofs.mset_kinds.mset_up.Goals as goal

pub returns-in_ok-counts_mset-in-MSetOccurrence : goal.returns-in_ok-counts_mset-in-MSetOccurrence
returns-in_ok-counts_mset-in-MSetOccurrence c =
    let is = c.in-MSetOccurrence.is in
    let e : c.args.kind ≡ ReprKind.MSetOccurrence = cc in
    subst (λ k. UpOfMultiset k (pure_attributes c.args.attributes.now) (pure_closed c.args.member.now) (pure_tables c.args.tables.now) (map pure_val c.args.vals) c.in_ok-counts_mset-in-MSetOccurrence.field-0) (sym e)
    (counts_meant (pure_attributes c.args.attributes.now) (pure_closed c.args.member.now) (pure_tables c.args.tables.now) (map pure_val c.args.vals) c.in_ok-counts_mset-in-MSetOccurrence.field-0 c.first_items.result.now c.first_items.ensures c.in_ok-counts_mset-in-MSetOccurrence.ensures)

pub returns-in_ok-mset_in_slots-in-MSetExplicitWithRepetition : goal.returns-in_ok-mset_in_slots-in-MSetExplicitWithRepetition
returns-in_ok-mset_in_slots-in-MSetExplicitWithRepetition c =
    let is = c.in-MSetExplicitWithRepetition.is in
    let e : c.args.kind ≡ ReprKind.MSetExplicitWithRepetition = cc in
    subst (λ k. UpOfMultiset k (pure_attributes c.args.attributes.now) (pure_closed c.args.member.now) (pure_tables c.args.tables.now) (map pure_val c.args.vals) c.in_ok-mset_in_slots-in-MSetExplicitWithRepetition.field-0) (sym e)
    (repetition_meant (pure_attributes c.args.attributes.now) (pure_closed c.args.member.now) (pure_tables c.args.tables.now) (map pure_val c.args.vals) c.in_ok-mset_in_slots-in-MSetExplicitWithRepetition.field-0 c.in_ok-slots-in-MSetExplicitWithRepetition.slots c.in_ok-slots-in-MSetExplicitWithRepetition.ensures c.in_ok-mset_in_slots-in-MSetExplicitWithRepetition.ensures)

pub returns-in_ok-counted_mset-in-MSetExplicitWithFlags : goal.returns-in_ok-counted_mset-in-MSetExplicitWithFlags
returns-in_ok-counted_mset-in-MSetExplicitWithFlags c =
    let is = c.in-MSetExplicitWithFlags.is in
    let e : c.args.kind ≡ ReprKind.MSetExplicitWithFlags = cc in
    subst (λ k. UpOfMultiset k (pure_attributes c.args.attributes.now) (pure_closed c.args.member.now) (pure_tables c.args.tables.now) (map pure_val c.args.vals) c.in_ok-counted_mset-in-MSetExplicitWithFlags.field-0) (sym e)
    (counted_meant (pure_attributes c.args.attributes.now) (pure_closed c.args.member.now) (pure_tables c.args.tables.now) (map pure_val c.args.vals) c.in_ok-counted_mset-in-MSetExplicitWithFlags.field-0 c.first_items-in-MSetExplicitWithFlags.result.now c.first_items-in-MSetExplicitWithFlags.ensures c.in_ok-counted_mset-in-MSetExplicitWithFlags.ensures)
