use Rattle.std.proofs.Common.{◌≡◌, ◌&&◌, drop, pos, int_le}
use Rattle.std.specs.List.{list_all}
use Rattle.ess_repr_relations.proofs.parting.are_part_numbers.Given as goal

abbrev pub invariant-loop-number : goal.invariant-loop-number
invariant-loop-number l =
    list_all (λ w. int_le (pos 1) w && int_le w l.count) l.numbers ≡ list_all (λ w. int_le (pos 1) w && int_le w l.count)
    (drop l.number-index l.numbers)
