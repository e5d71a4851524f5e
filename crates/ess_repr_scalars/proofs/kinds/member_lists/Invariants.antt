use Rattle.std.proofs.Common.{◌≡◌, map, take}
use Rattle.ess_core.specs.ValueViews.{pure_val}
use Rattle.ess_repr_scalars.proofs.ScalarUp.{list_for}
use Rattle.ess_repr_scalars.proofs.kinds.member_lists.Given as goal

abbrev pub invariant-loop-domain : goal.invariant-loop-domain
invariant-loop-domain l = map (map pure_val) l.lists ≡ map list_for (take l.domain-index l.domains)
