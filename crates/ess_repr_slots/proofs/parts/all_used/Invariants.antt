use Rattle.std.proofs.Common.{◌≡◌, map}
use Rattle.ess_repr_rows_laws.specs.RowLayers.{all_used}
use Rattle.ess_repr_tables.specs.SlotViews.{pure_tables, pure_slots}
use Rattle.ess_repr_slots.proofs.parts.all_used.Given as goal

abbrev pub invariant-loop-slot : goal.invariant-loop-slot
invariant-loop-slot l = pure_slots l.used ≡ all_used (map pure_tables l.yielded)
