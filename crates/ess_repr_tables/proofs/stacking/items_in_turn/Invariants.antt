use Rattle.std.proofs.Common.{◌≡◌, take}
use Rattle.ess_semantics.specs.Tables.{volume}
use Rattle.ess_repr_rows_laws.specs.Stacking.{items_in_turn}
use Rattle.ess_repr_tables.specs.SlotViews.{pure_slots}
use Rattle.ess_repr_tables.proofs.stacking.items_in_turn.Given as goal

abbrev pub invariant-loop-slot : goal.invariant-loop-slot
invariant-loop-slot l = l.items ≡ items_in_turn l.number (volume l.axes) (pure_slots (take l.slot-index l.slots))
