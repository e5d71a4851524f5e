use Rattle.std.proofs.Common.{◌≡◌, map, drop, take}
use Rattle.ess_semantics.specs.Names.{keys}
use Rattle.ess_semantics.specs.Parameters.{givens, first_extra_value}
use Rattle.ess_core.specs.StatementViews.{pure_stm}
use Rattle.ess_domains.specs.Assignments.{pure_type_names, pure_named_value}
use Rattle.ess_domains.specs.Earlier.{names_behind}
use Rattle.ess_domains.proofs.extra_values.extra_given.Given as goal

abbrev pub invariant-loop-i : goal.invariant-loop-i
invariant-loop-i l =
    first_extra_value (givens (map pure_stm l.stms)) (map pure_named_value l.vals) (keys (map pure_type_names l.types))
    ≡ first_extra_value (givens (map pure_stm l.stms)) (map pure_named_value (drop l.i l.vals)) (names_behind (map pure_named_value (take l.i l.vals)) (keys (map pure_type_names l.types)))
