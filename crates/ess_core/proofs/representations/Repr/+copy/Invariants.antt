use Rattle.std.proofs.Common.{◌≡◌, take}
use Rattle.ess_core.proofs.representations.Repr.+copy.Given as goal

abbrev pub invariant-loop-child : goal.invariant-loop-child
invariant-loop-child l = l.children ≡ take l.child-index l.child-items
