use Rattle.std.proofs.Common.{◌≡◌, map, take}
use Rattle.ess_repr_closed.proofs.AxisForms.{axis_for}
use Rattle.ess_repr_closed.proofs.axes.axes_of_each.Given as goal

abbrev pub invariant-loop-domain : goal.invariant-loop-domain
invariant-loop-domain l = l.axes ≡ map axis_for (take l.domain-index l.domains)
