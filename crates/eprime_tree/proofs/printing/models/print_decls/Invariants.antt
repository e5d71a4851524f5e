use Rattle.eprime_tree.proofs.printing.models.print_decls.Given as goal
use Rattle.eprime_tree.proofs.PrintedModels.{DeclsListed}

abbrev pub invariant-loop-decl : goal.invariant-loop-decl
invariant-loop-decl l = DeclsListed l.initial.out l.out l.fn.word l.decl-index l.decl-items
