use Rattle.std.proofs.Common.{◌≡◌, map, take}
use Rattle.ess_repr_rows_laws.specs.Cutting.{parts_at}
use Rattle.ess_repr_tables.specs.SlotViews.{pure_tables}
use Rattle.ess_repr_tables.proofs.cutting.slots_at.Given as goal

abbrev pub invariant-loop-number : goal.invariant-loop-number
invariant-loop-number l = map pure_tables l.slots ≡ map (parts_at l.axes (pure_tables l.tables)) (take l.number-index l.numbers)
