use Rattle.std.proofs.Common.{◌≡◌, ◌++◌, map, take}
use Rattle.ess_core.specs.TableViews.{pure_named_table}
use Rattle.eprime_eval.specs.KnownTables.{named_table}
use Rattle.eprime_eval.proofs.knowing.add_tables.Given as goal

abbrev pub invariant-loop-table : goal.invariant-loop-table
invariant-loop-table l = map named_table l.grids ≡ map named_table l.initial.grids ++ map pure_named_table (take l.table-index l.tables)
