use Rattle.std.proofs.Common.{◌≡◌, map, take}
use Rattle.ess_core.specs.TreeViews.{pure_dom}
use Rattle.ess_repr.proofs.CellDomains.{axis_over}
use Rattle.ess_repr.proofs.cells.axes_over.Given as goal

abbrev pub invariant-loop-dom : goal.invariant-loop-dom
invariant-loop-dom l = map pure_dom l.axes ≡ map axis_over (take l.dom-index l.doms)
