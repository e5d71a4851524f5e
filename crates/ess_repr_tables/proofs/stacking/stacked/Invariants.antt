use Rattle.std.proofs.Common.{◌≡◌, map, take}
use Rattle.ess_core.specs.TableViews.{pure_table}
use Rattle.ess_repr_rows_laws.specs.Stacking.{stacked}
use Rattle.ess_repr_tables.specs.SlotViews.{pure_slots}
use Rattle.ess_repr_tables.proofs.stacking.stacked.Given as goal

abbrev pub invariant-loop-number : goal.invariant-loop-number
invariant-loop-number l = map pure_table l.tables ≡ stacked l.layer_axes (take l.number l.axes) (pure_slots l.slots)
