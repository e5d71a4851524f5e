use Rattle.std.proofs.Common.{◌≡◌, drop}
use Rattle.ess_types_judging.proofs.FieldLemmas.{ex_named}
use Rattle.ess_types_judging.proofs.fields.is_field.Given as goal

abbrev pub invariant-loop-i : goal.invariant-loop-i
invariant-loop-i l = ex_named l.fields l.name ≡ ex_named (drop l.i l.fields) l.name
