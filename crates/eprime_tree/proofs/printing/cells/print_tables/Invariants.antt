use Rattle.std.proofs.Common.{◌≡◌, ◌++◌}
use Rattle.eprime_tree.proofs.PrintedCells.{decl_lines}
use Rattle.eprime_tree.proofs.printing.cells.print_tables.Given as goal

abbrev pub invariant-loop-named : goal.invariant-loop-named
invariant-loop-named l = l.out ++ decl_lines l.named-iterator.b.rest.now l.named-iterator.a.rest.now
    ≡ l.initial.out ++ decl_lines l.decls l.tables
