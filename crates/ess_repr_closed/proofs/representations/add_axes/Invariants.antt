use Rattle.std.proofs.Common.{◌≡◌, ◌++◌, take}
use Rattle.ess_repr_closed.proofs.representations.add_axes.Given as goal

abbrev pub invariant-loop-axis : goal.invariant-loop-axis
invariant-loop-axis l = l.all ≡ l.initial.all ++ take l.axis-index l.axes
