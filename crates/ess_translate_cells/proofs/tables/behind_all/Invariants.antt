use Rattle.ess_translate_cells.proofs.TablesInOrder.{LeftAt}
use Rattle.ess_translate_cells.proofs.tables.behind_all.Given as goal

abbrev pub invariant-loop-place : goal.invariant-loop-place
invariant-loop-place l = LeftAt l.axes l.cells l.place l.rest l.left
