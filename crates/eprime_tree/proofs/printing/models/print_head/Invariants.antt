use Rattle.eprime_tree.proofs.printing.models.print_head.Given as goal
use Rattle.eprime_tree.proofs.PrintedModels.{HeadListed}

abbrev pub invariant-loop-line : goal.invariant-loop-line
invariant-loop-line l = HeadListed l.initial.out l.out l.line-index l.line-items
