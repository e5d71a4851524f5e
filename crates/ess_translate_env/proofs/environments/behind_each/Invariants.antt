use Rattle.ess_core.specs.TableViews.{pure_env}
use Rattle.ess_domains.specs.Assignments.{pure_assignment}
use Rattle.ess_translate_env.proofs.WholeEnvs.{IsOnWay}
use Rattle.ess_translate_env.proofs.environments.behind_each.Given as goal

abbrev pub invariant-loop-stm : goal.invariant-loop-stm
invariant-loop-stm l = IsOnWay l.stms l.stm-index (pure_assignment l.param) (pure_assignment l.sol) (pure_env l.env)
