use Rattle.std.proofs.Common.{◌≡◌, true, map}
use Rattle.ess_semantics.specs.Parameters.{first_verdict}
use Rattle.ess_core.specs.TableViews.{pure_env}
use Rattle.ess_core.specs.StatementViews.{pure_stm}
use Rattle.ess_domains.specs.Assignments.{pure_assignment}
use Rattle.ess_domains.specs.Prepared.{places, has_large_declared}
use Rattle.ess_domains.proofs.Walks.{left}
use Rattle.ess_domains.proofs.parameters.first_verdict.Given as goal

abbrev pub invariant-loop-i : goal.invariant-loop-i
invariant-loop-i l = record {
  so_far : first_verdict (pure_assignment l.param) (left l.i l.stms (pure_assignment l.param) (pure_assignment l.sol) (pure_env l.env))
      ≡ first_verdict (pure_assignment l.param) (places (map pure_stm l.stms) (pure_assignment l.param) (pure_assignment l.sol));
  large_left : has_large_declared (left l.i l.stms (pure_assignment l.param) (pure_assignment l.sol) (pure_env l.env)) ≡ true
      → has_large_declared (places (map pure_stm l.stms) (pure_assignment l.param) (pure_assignment l.sol)) ≡ true;
}
