use Rattle.std.proofs.Common.{◌≡◌, drop}
use Rattle.ess_types_judging.proofs.FieldLemmas.{doms_differ}
use Rattle.ess_types_judging.proofs.fields.domain_fields_differ.Given as goal

abbrev pub invariant-loop-i : goal.invariant-loop-i
invariant-loop-i l = doms_differ l.fields ≡ doms_differ (drop l.i l.fields)
