use Rattle.std.proofs.Common.{◌≡◌, drop}
use Rattle.ess_repr.proofs.Marks.{keyed}
use Rattle.ess_repr.proofs.attributes.has_key.Given as goal

abbrev pub invariant-loop-i : goal.invariant-loop-i
invariant-loop-i l = keyed l.key l.attrs ≡ keyed l.key (drop l.i l.attrs)
