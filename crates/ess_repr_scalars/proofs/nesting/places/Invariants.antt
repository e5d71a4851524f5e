use Rattle.std.proofs.Common.{◌≡◌, ◌*◌, drop}
use Rattle.ess_repr_scalars.specs.NestedMatrices.{places_in}
use Rattle.ess_repr_scalars.proofs.NestingLoops.{pure_index}
use Rattle.ess_repr_scalars.proofs.nesting.places.Given as goal

abbrev pub invariant-loop-members : goal.invariant-loop-members
invariant-loop-members l = l.total * places_in (pure_index (drop l.members-index l.index)) ≡ places_in (pure_index l.index)
