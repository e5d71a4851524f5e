use Rattle.std.proofs.Common.{◌≡◌, [], map, drop, take}
use Rattle.ess_semantics.specs.Parameters.{givens, given_enums, taken_value_names, first_extra_type}
use Rattle.ess_core.specs.StatementViews.{pure_stm}
use Rattle.ess_domains.specs.Assignments.{pure_type_names}
use Rattle.ess_domains.specs.Earlier.{names_behind, values_behind}
use Rattle.ess_domains.specs.Sizes.{pure_size}
use Rattle.ess_domains.proofs.extras.extra_type.Given as goal

abbrev pub invariant-loop-i : goal.invariant-loop-i
invariant-loop-i l =
    first_extra_type (givens (map pure_stm l.stms)) (given_enums (map pure_stm l.stms)) (map pure_size l.sizes) (map pure_type_names l.types) [] (taken_value_names (map pure_stm l.stms) (map pure_size l.sizes))
    ≡ first_extra_type (givens (map pure_stm l.stms)) (given_enums (map pure_stm l.stms)) (map pure_size l.sizes) (map pure_type_names (drop l.i l.types))
    (names_behind (map pure_type_names (take l.i l.types)) []) (values_behind (map pure_type_names (take l.i l.types)) (taken_value_names (map pure_stm l.stms) (map pure_size l.sizes)))
