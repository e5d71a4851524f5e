use Rattle.std.proofs.Common.{◌≡◌, map, take}
use Rattle.ess_core.specs.TableViews.{pure_table}
use Rattle.ess_repr_rows_laws.specs.Cutting.{parts_at}
use Rattle.ess_repr_tables.specs.SlotViews.{pure_tables}
use Rattle.ess_repr_tables.proofs.cutting.parts_at.Given as goal

abbrev pub invariant-loop-table : goal.invariant-loop-table
invariant-loop-table l = map pure_table l.parts ≡ parts_at l.axes (pure_tables (take l.table-index l.tables)) l.number
