use Rattle.eprime_tree.proofs.printing.models.print_doms.Given as goal
use Rattle.eprime_tree.proofs.PrintedModels.{DomsListed}

abbrev pub invariant-loop-index : goal.invariant-loop-index
invariant-loop-index l = DomsListed l.initial.out l.out l.index l.dom-items
