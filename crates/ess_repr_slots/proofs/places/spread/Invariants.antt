use Rattle.std.proofs.Common.{◌≡◌, ◌++◌, map, drop, reverse}
use Rattle.ess_repr_rows_laws.specs.RowLayers.{spread}
use Rattle.ess_repr_tables.specs.SlotViews.{pure_tables, pure_slots}
use Rattle.ess_repr_slots.proofs.places.spread.Given as goal

abbrev pub invariant-loop-mark : goal.invariant-loop-mark
invariant-loop-mark l =
    spread l.marks (map pure_tables l.fn.slots) ≡ pure_slots l.places ++ spread (drop l.mark-index l.marks) (map pure_tables (reverse l.rest))
