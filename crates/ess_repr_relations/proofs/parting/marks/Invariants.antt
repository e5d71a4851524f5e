use Rattle.std.proofs.Common.{◌≡◌, map, take}
use Rattle.ess_semantics.specs.Order.{same_int}
use Rattle.ess_semantics.specs.Tables.{truth_number}
use Rattle.ess_repr_relations.proofs.parting.marks.Given as goal

abbrev pub invariant-loop-own : goal.invariant-loop-own
invariant-loop-own l = l.marks ≡ map (λ w. truth_number (same_int w l.number)) (take l.own-index l.numbers)
