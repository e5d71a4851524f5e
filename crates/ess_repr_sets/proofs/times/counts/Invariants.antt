use Rattle.std.proofs.Common.{◌≡◌, map, take, pos}
use Rattle.ess_semantics.specs.Collections.{count}
use Rattle.ess_core.specs.ValueViews.{pure_val}
use Rattle.ess_repr_sets.proofs.times.counts.Given as goal

abbrev pub invariant-loop-member : goal.invariant-loop-member
invariant-loop-member l = l.counts ≡ map (λ x. pos (count (map pure_val l.items) x)) (map pure_val (take l.member-index l.members))
