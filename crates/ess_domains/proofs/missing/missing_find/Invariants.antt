use Rattle.std.proofs.Common.{◌≡◌, map, drop}
use Rattle.ess_semantics.specs.Parameters.{first_missing}
use Rattle.ess_semantics.specs.Solutions.{finds}
use Rattle.ess_core.specs.StatementViews.{pure_stm}
use Rattle.ess_domains.specs.Assignments.{pure_assignment}
use Rattle.ess_domains.proofs.missing.missing_find.Given as goal

abbrev pub invariant-loop-stm : goal.invariant-loop-stm
invariant-loop-stm l = first_missing (finds (map pure_stm l.stms)) (pure_assignment l.sol)
    ≡ first_missing (finds (map pure_stm (drop l.stm-index l.stms))) (pure_assignment l.sol)
