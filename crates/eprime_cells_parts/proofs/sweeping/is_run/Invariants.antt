use Rattle.eprime_cells_parts.proofs.RunsInOrder.{Run}
use Rattle.eprime_cells_parts.proofs.sweeping.is_run.Given as goal

abbrev pub invariant-loop-place : goal.invariant-loop-place
invariant-loop-place l = Run l.first l.numbers l.place
