use Rattle.std.proofs.Common.{◌≡◌, drop}
use Rattle.ess_repr.proofs.Marks.{numbered}
use Rattle.ess_repr.proofs.attributes.value_of.Given as goal

abbrev pub invariant-loop-i : goal.invariant-loop-i
invariant-loop-i l = numbered l.key l.attrs ≡ numbered l.key (drop l.i l.attrs)
