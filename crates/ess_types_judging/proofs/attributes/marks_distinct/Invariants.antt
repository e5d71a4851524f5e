use Rattle.std.proofs.Common.{◌≡◌, drop}
use Rattle.ess_types_judging.proofs.AttributeLemmas.{distinct}
use Rattle.ess_types_judging.proofs.attributes.marks_distinct.Given as goal

abbrev pub invariant-loop-i : goal.invariant-loop-i
invariant-loop-i l = distinct l.attrs ≡ distinct (drop l.i l.attrs)
