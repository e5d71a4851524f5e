use Rattle.std.proofs.Common.{◌+◌, ◌*◌, length}
use Rattle.eprime_tree.proofs.PrintedCells.{RowsWritten}
use Rattle.eprime_tree.proofs.printing.cells.+values.Given as goal

abbrev pub decreases-print_list : goal.decreases-print_list
decreases-print_list l = 2 * length l.inner.now + 1

abbrev pub decreases-print_value : goal.decreases-print_value
decreases-print_value l = 2 * length l.axes.now

abbrev pub invariant-print_list-loop-at : goal.invariant-print_list-loop-at
invariant-print_list-loop-at l = RowsWritten l.truths l.inner l.axis l.items l.initial.out l.at l.rest l.out
