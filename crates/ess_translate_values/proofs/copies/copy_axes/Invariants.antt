use Rattle.std.proofs.Common.{◌≡◌, take}
use Rattle.ess_translate_values.proofs.copies.copy_axes.Given as goal

abbrev pub invariant-loop-axis : goal.invariant-loop-axis
invariant-loop-axis l = l.copies ≡ take l.axis-index l.axes
