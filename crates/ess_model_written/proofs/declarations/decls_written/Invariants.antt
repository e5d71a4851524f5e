use Rattle.std.proofs.Common.{take}
use Rattle.eprime_read_convert.specs.Lines.{scope_of}
use Rattle.ess_model_written.proofs.DeclarationSteps.{WrittenFor}
use Rattle.ess_model_written.proofs.declarations.decls_written.Given as goal

abbrev pub invariant-loop-table : goal.invariant-loop-table
invariant-loop-table l = WrittenFor l.found l.taken l.shows.next (scope_of l.fn.lines) (take l.table-index l.tables) l.written l.lines
