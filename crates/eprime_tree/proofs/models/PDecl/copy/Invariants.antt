use Rattle.std.proofs.Common.{◌≡◌, take}
use Rattle.eprime_tree.proofs.models.PDecl.copy.Given as goal

abbrev pub invariant-loop-axis : goal.invariant-loop-axis
invariant-loop-axis l = l.axes ≡ take l.axis-index l.axis-items
