use Rattle.std.proofs.Common.{◌≡◌, drop}
use Rattle.ess_types_judging.proofs.FieldLemmas.{exs_differ}
use Rattle.ess_types_judging.proofs.fields.fields_differ.Given as goal

abbrev pub invariant-loop-i : goal.invariant-loop-i
invariant-loop-i l = exs_differ l.fields ≡ exs_differ (drop l.i l.fields)
