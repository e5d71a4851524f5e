use Rattle.std.proofs.Common.{take}
use Rattle.eprime_verdicts.specs.Denoting.{AreDenoted}
use Rattle.ess_translate_cells.proofs.closing.closed_axes.Given as goal

abbrev pub invariant-loop-dom : goal.invariant-loop-dom
invariant-loop-dom l = AreDenoted l.under (take l.dom-index l.doms) l.closed
