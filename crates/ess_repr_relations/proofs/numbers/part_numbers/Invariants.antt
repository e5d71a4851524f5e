use Rattle.std.proofs.Common.{◌≡◌, map, take}
use Rattle.ess_core.specs.ValueViews.{pure_val}
use Rattle.ess_repr_relations.specs.PartNumbers.{list_number}
use Rattle.ess_repr_relations.proofs.numbers.part_numbers.Given as goal

abbrev pub invariant-loop-member : goal.invariant-loop-member
invariant-loop-member l = l.numbers ≡ map (list_number 1 (map (map pure_val) l.lists)) (map pure_val (take l.member-index l.members))
