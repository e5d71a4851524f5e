use Rattle.std.proofs.Common.{◌≡◌, map, Some}
use Rattle.ess_repr_tables.specs.SlotViews.{pure_slots}
use Rattle.ess_repr_slots.specs.CountedViews.{pure_counted}
use Rattle.ess_repr_slots.proofs.counted.tables_of.Given as goal

abbrev pub invariant-loop-slot : goal.invariant-loop-slot
invariant-loop-slot l = pure_slots l.used ≡ map (λ c. Some c.1) (map pure_counted l.yielded)
