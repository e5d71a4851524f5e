use Rattle.std.proofs.Common.{◌≡◌, map, drop}
use Rattle.std.specs.List.{list_any}
use Rattle.ess_semantics.specs.Names.{is_among}
use Rattle.ess_semantics.specs.Parameters.{taken_value_names}
use Rattle.ess_core.specs.StatementViews.{pure_stm}
use Rattle.ess_domains.specs.Assignments.{pure_type_names}
use Rattle.ess_domains.specs.Earlier.{values_behind}
use Rattle.ess_domains.specs.Sizes.{pure_size}
use Rattle.ess_domains.proofs.extras.is_one_taken.Given as goal

abbrev pub invariant-loop-name : goal.invariant-loop-name
invariant-loop-name l =
    list_any (is_among (values_behind (map pure_type_names l.before) (taken_value_names (map pure_stm l.stms) (map pure_size l.sizes)))) l.names
    ≡ list_any (is_among (values_behind (map pure_type_names l.before) (taken_value_names (map pure_stm l.stms) (map pure_size l.sizes)))) (drop l.name-index l.names)
