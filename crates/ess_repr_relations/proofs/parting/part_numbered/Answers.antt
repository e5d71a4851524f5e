use Rattle.std.proofs.Common.{ap, ◌∙◌, map, rules, w64}
use Rattle.std.proofs.lemmas.Int.{to_z-of_z}
use Rattle.ess_semantics.specs.Order.{same_int}
use Rattle.ess_semantics.specs.Tables.{truth_number}
use Rattle.ess_core.specs.ValueViews.{pure_val}
use Rattle.ess_repr_relations.proofs.NumberedMembers.{picked_set}
use Rattle.ess_repr_relations.proofs.parting.part_numbered.Goals as goal

pub returns-in-Some : goal.returns-in-Some
returns-in-Some c =
    picked_set (map pure_val c.args.members.now) c.args.numbers.now c.as_slice.result.now c.args.number c.in-Some.own c.in_ok-own.field-0
    (pure_val c.in_ok-set_of-in-Some.field-0) c.in-Some.is
    (c.as_slice.ensures ∙ c.in_ok-marks.ensures
    ∙ ap (λ z. map (λ w. truth_number (same_int w z)) c.args.numbers.now) (to_z-of_z w64 c.args.number (search rules)))
    c.in_ok-own.ensures c.in_ok-set_of-in-Some.ensures
