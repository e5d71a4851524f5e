use Rattle.std.proofs.Common.{◌≡◌, take}
use Rattle.ess_repr_relations.proofs.tuples.copies.Given as goal

abbrev pub invariant-loop-domain : goal.invariant-loop-domain
invariant-loop-domain l = l.copies ≡ take l.domain-index l.domains
