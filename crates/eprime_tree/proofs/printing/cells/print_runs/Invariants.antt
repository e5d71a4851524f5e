use Rattle.std.proofs.Common.{◌≡◌, ◌++◌, drop}
use Rattle.eprime_cells_laws.proofs.Written.{runs_left}
use Rattle.eprime_tree.proofs.printing.cells.print_runs.Given as goal

abbrev pub invariant-loop-next : goal.invariant-loop-next
invariant-loop-next l = l.out ++ runs_left l.last (drop l.next-index l.others) ≡ l.initial.out ++ runs_left l.first l.others
