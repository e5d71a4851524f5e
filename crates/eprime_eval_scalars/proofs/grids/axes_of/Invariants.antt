use Rattle.std.proofs.Common.{◌≡◌, map, take}
use Rattle.eprime_eval_scalars.specs.Grids.{axis_numbers}
use Rattle.eprime_eval_scalars.proofs.grids.axes_of.Given as goal

abbrev pub invariant-loop-axis : goal.invariant-loop-axis
invariant-loop-axis l = map axis_numbers l.found ≡ take l.axis-index l.axes
