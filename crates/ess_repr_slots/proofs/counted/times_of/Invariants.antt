use Rattle.std.proofs.Common.{◌≡◌, map, take}
use Rattle.ess_repr_slots.specs.CountedViews.{pure_counted}
use Rattle.ess_repr_slots.proofs.counted.times_of.Given as goal

abbrev pub invariant-loop-slot : goal.invariant-loop-slot
invariant-loop-slot l = l.times ≡ map (λ c. c.0) (map pure_counted (take l.slot-index l.slots))
