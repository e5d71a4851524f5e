use Rattle.std.proofs.Common.{◌≡◌, drop}
use Rattle.ess_semantics.specs.DomainJudgements.{all_need_known_slots}
use Rattle.ess_types_judging.proofs.DomainLists.{of_doms, of_fields}
use Rattle.ess_types_judging.proofs.finiteness.+slots.Given as goal

abbrev pub invariant-all_need_known_slots-loop-i : goal.invariant-all_need_known_slots-loop-i
invariant-all_need_known_slots-loop-i l = of_doms all_need_known_slots l.doms ≡ of_doms all_need_known_slots (drop l.i l.doms)

abbrev pub invariant-fields_need_known_slots-loop-i : goal.invariant-fields_need_known_slots-loop-i
invariant-fields_need_known_slots-loop-i l = of_fields all_need_known_slots l.fields ≡ of_fields all_need_known_slots (drop l.i l.fields)
