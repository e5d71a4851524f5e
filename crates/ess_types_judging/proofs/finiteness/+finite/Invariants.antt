use Rattle.std.proofs.Common.{◌≡◌, drop}
use Rattle.ess_semantics.specs.DomainJudgements.{are_finite}
use Rattle.ess_types_judging.proofs.DomainLists.{of_doms, of_fields}
use Rattle.ess_types_judging.proofs.finiteness.+finite.Given as goal

abbrev pub invariant-are_finite-loop-i : goal.invariant-are_finite-loop-i
invariant-are_finite-loop-i l = of_doms are_finite l.doms ≡ of_doms are_finite (drop l.i l.doms)

abbrev pub invariant-fields_finite-loop-i : goal.invariant-fields_finite-loop-i
invariant-fields_finite-loop-i l = of_fields are_finite l.fields ≡ of_fields are_finite (drop l.i l.fields)
