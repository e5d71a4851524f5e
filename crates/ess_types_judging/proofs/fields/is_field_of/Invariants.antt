use Rattle.std.proofs.Common.{◌≡◌, drop}
use Rattle.ess_types_judging.proofs.FieldLemmas.{dom_named}
use Rattle.ess_types_judging.proofs.fields.is_field_of.Given as goal

abbrev pub invariant-loop-i : goal.invariant-loop-i
invariant-loop-i l = dom_named l.fields l.name ≡ dom_named (drop l.i l.fields) l.name
