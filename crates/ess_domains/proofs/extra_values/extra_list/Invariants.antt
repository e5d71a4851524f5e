use Rattle.std.proofs.Common.{◌≡◌, [], map, drop, take}
use Rattle.ess_semantics.specs.Solutions.{finds, first_extra_list}
use Rattle.ess_core.specs.StatementViews.{pure_stm}
use Rattle.ess_domains.specs.Assignments.{pure_type_names}
use Rattle.ess_domains.specs.Earlier.{names_behind}
use Rattle.ess_domains.specs.Sizes.{pure_size}
use Rattle.ess_domains.proofs.extra_values.extra_list.Given as goal

abbrev pub invariant-loop-i : goal.invariant-loop-i
invariant-loop-i l =
    first_extra_list (finds (map pure_stm l.stms)) (map pure_size l.sizes) (map pure_type_names l.types) []
    ≡ first_extra_list (finds (map pure_stm l.stms)) (map pure_size l.sizes) (map pure_type_names (drop l.i l.types)) (names_behind (map pure_type_names (take l.i l.types)) [])
