use Rattle.std.proofs.Common.{map}
use Rattle.ess_core.specs.TableViews.{pure_named_table}
use Rattle.ess_translate_values.proofs.FoundTables.{TablesSoFar}
use Rattle.ess_translate_values.proofs.lookups.tables_named.Given as goal

abbrev pub invariant-loop-name : goal.invariant-loop-name
invariant-loop-name l = TablesSoFar l.names (map pure_named_table l.cells) l.name-index l.tables
