use Rattle.std.proofs.Common.{take}
use Rattle.ess_translate_cells.specs.ClosedTables.{AreClosedTables}
use Rattle.ess_translate_cells.proofs.closing.closed_tables.Given as goal

abbrev pub invariant-loop-decl : goal.invariant-loop-decl
invariant-loop-decl l = AreClosedTables l.under (take l.decl-index l.decls) l.closed
