use Rattle.std.proofs.Common.{◌≡◌, ◌++◌, map, take}
use Rattle.ess_semantics.specs.Names.{keys}
use Rattle.ess_translate_plans.specs.Views.{pure_table_name}
use Rattle.ess_models.proofs.names.add_tables.Given as goal

abbrev pub invariant-loop-table : goal.invariant-loop-table
invariant-loop-table l = l.names ≡ l.fn.names ++ keys (map pure_table_name (take l.table-index l.tables))
