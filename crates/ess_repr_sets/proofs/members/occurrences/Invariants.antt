use Rattle.std.proofs.Common.{◌≡◌, map, take}
use Rattle.ess_semantics.specs.Tables.{truth_number}
use Rattle.ess_semantics.specs.Collections.{holds}
use Rattle.ess_core.specs.ValueViews.{pure_val}
use Rattle.ess_repr_sets.proofs.members.occurrences.Given as goal

abbrev pub invariant-loop-member : goal.invariant-loop-member
invariant-loop-member l = l.bits ≡ map (λ x. truth_number (holds (map pure_val l.items) x)) (map pure_val (take l.member-index l.members))
