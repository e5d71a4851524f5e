use Rattle.std.proofs.Common.{◌≡◌, drop}
use Rattle.ess_types_judging.proofs.DomainLists.{of_doms, each_atom}
use Rattle.ess_types_judging.proofs.finiteness.are_atoms.Given as goal

abbrev pub invariant-loop-i : goal.invariant-loop-i
invariant-loop-i l = of_doms each_atom l.doms ≡ of_doms each_atom (drop l.i l.doms)
