use Rattle.std.proofs.Common.{◌≡◌, true, false, None, map}
use Rattle.ess_core.specs.TableViews.{pure_env}
use Rattle.ess_core.specs.StatementViews.{pure_stm}
use Rattle.ess_domains.specs.Assignments.{pure_assignment}
use Rattle.ess_domains.specs.Prepared.{places, values_verdict, has_large}
use Rattle.ess_domains.proofs.Walks.{left}
use Rattle.ess_domains.proofs.solutions.judged_values.Given as goal

abbrev pub invariant-loop-i : goal.invariant-loop-i
invariant-loop-i l = record {
  so_far : values_verdict l.false_at l.without_value (pure_assignment l.sol) (left l.i l.stms (pure_assignment l.param) (pure_assignment l.sol) (pure_env l.env))
      ≡ values_verdict None false (pure_assignment l.sol) (places (map pure_stm l.stms) (pure_assignment l.param) (pure_assignment l.sol));
  large_left : has_large (left l.i l.stms (pure_assignment l.param) (pure_assignment l.sol) (pure_env l.env)) ≡ true
      → has_large (places (map pure_stm l.stms) (pure_assignment l.param) (pure_assignment l.sol)) ≡ true;
}
