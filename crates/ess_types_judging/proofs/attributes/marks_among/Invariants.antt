use Rattle.std.proofs.Common.{◌≡◌, drop}
use Rattle.ess_types_judging.proofs.AttributeLemmas.{among}
use Rattle.ess_types_judging.proofs.attributes.marks_among.Given as goal

abbrev pub invariant-loop-i : goal.invariant-loop-i
invariant-loop-i l = among l.holder l.attrs ≡ among l.holder (drop l.i l.attrs)
