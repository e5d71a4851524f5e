use Rattle.std.proofs.Common.{drop}
use Rattle.ess_translate_plans.proofs.SideTables.{Names, table_names_of}
use Rattle.ess_translate_plans.proofs.declaring.behind_tables.Given as goal

abbrev pub invariant-loop-table : goal.invariant-loop-table
invariant-loop-table l = Names (table_names_of l.tables) l.rest (table_names_of (drop l.table-index l.tables)) l.left
