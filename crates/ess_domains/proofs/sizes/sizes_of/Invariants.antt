use Rattle.std.proofs.Common.{◌≡◌, ◌++◌, true, map}
use Rattle.ess_semantics.specs.Assignments.{unnamed_sizes}
use Rattle.ess_core.specs.TableViews.{pure_env}
use Rattle.ess_core.specs.StatementViews.{pure_stm}
use Rattle.ess_domains.specs.Assignments.{pure_assignment}
use Rattle.ess_domains.specs.Prepared.{places, sizes, has_large_declared}
use Rattle.ess_domains.specs.Sizes.{pure_size}
use Rattle.ess_domains.proofs.Walks.{left}
use Rattle.ess_domains.proofs.sizes.sizes_of.Given as goal

abbrev pub invariant-loop-stm : goal.invariant-loop-stm
invariant-loop-stm l = record {
  so_far : map pure_size l.found ++ unnamed_sizes (left l.stm-index l.stms (pure_assignment l.param) (pure_assignment l.sol) (pure_env l.env))
      ≡ sizes (map pure_stm l.stms) (pure_assignment l.param) (pure_assignment l.sol);
  large_left : has_large_declared (left l.stm-index l.stms (pure_assignment l.param) (pure_assignment l.sol) (pure_env l.env)) ≡ true
      → has_large_declared (places (map pure_stm l.stms) (pure_assignment l.param) (pure_assignment l.sol)) ≡ true;
}
