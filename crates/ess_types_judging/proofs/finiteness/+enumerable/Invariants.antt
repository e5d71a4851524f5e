use Rattle.std.proofs.Common.{◌≡◌, drop}
use Rattle.ess_semantics.specs.DomainJudgements.{are_enumerable}
use Rattle.ess_types_judging.proofs.DomainLists.{of_doms, of_fields}
use Rattle.ess_types_judging.proofs.finiteness.+enumerable.Given as goal

abbrev pub invariant-are_enumerable-loop-i : goal.invariant-are_enumerable-loop-i
invariant-are_enumerable-loop-i l = of_doms are_enumerable l.doms ≡ of_doms are_enumerable (drop l.i l.doms)

abbrev pub invariant-fields_enumerable-loop-i : goal.invariant-fields_enumerable-loop-i
invariant-fields_enumerable-loop-i l = of_fields are_enumerable l.fields ≡ of_fields are_enumerable (drop l.i l.fields)
