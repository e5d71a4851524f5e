use Rattle.std.proofs.Common.{◌≡◌, drop}
use Rattle.ess_semantics.specs.Kinds.{are_atoms}
use Rattle.ess_repr.proofs.DomainLists.{of_doms}
use Rattle.ess_repr.proofs.atoms.are_atoms.Given as goal

abbrev pub invariant-loop-i : goal.invariant-loop-i
invariant-loop-i l = of_doms are_atoms l.doms ≡ of_doms are_atoms (drop l.i l.doms)
