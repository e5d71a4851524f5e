use Rattle.std.proofs.Common.{◌≡◌, map, drop}
use Rattle.ess_semantics.specs.Names.{look}
use Rattle.ess_core.specs.TableViews.{pure_named_table}
use Rattle.ess_translate_values.proofs.lookups.table_named.Given as goal

abbrev pub invariant-loop-cell : goal.invariant-loop-cell
invariant-loop-cell l = look (map pure_named_table l.cells) l.name ≡ look (map pure_named_table (drop l.cell-index l.cells)) l.name
