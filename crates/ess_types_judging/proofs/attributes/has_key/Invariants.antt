use Rattle.std.proofs.Common.{◌≡◌, drop}
use Rattle.ess_types_judging.proofs.AttributeLemmas.{keyed}
use Rattle.ess_types_judging.proofs.attributes.has_key.Given as goal

abbrev pub invariant-loop-i : goal.invariant-loop-i
invariant-loop-i l = keyed l.key l.attrs ≡ keyed l.key (drop l.i l.attrs)
