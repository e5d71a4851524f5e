use Rattle.std.proofs.Common.{◌≡◌, map}
use Rattle.ess_semantics.specs.Lists.{zip}
use Rattle.ess_repr_tables.specs.SlotViews.{pure_tables}
use Rattle.ess_repr_slots.specs.CountedViews.{pure_counted}
use Rattle.ess_repr_sets.proofs.msets.with_times.Given as goal

abbrev pub invariant-loop-tables : goal.invariant-loop-tables
invariant-loop-tables l = map pure_counted l.slots ≡ zip l.times (map pure_tables l.yielded)
