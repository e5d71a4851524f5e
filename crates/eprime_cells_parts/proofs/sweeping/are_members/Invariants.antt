use Rattle.eprime_cells_parts.proofs.RunsInOrder.{Swept}
use Rattle.eprime_cells_parts.proofs.sweeping.are_members.Given as goal

abbrev pub invariant-loop-range : goal.invariant-loop-range
invariant-loop-range l = Swept l.first l.ranges l.axis l.range-index l.next l.left
