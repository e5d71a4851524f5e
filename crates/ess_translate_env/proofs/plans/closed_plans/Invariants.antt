use Rattle.std.proofs.Common.{◌≡◌, map, take, option_map}
use Rattle.ess_core.specs.TableViews.{pure_env}
use Rattle.ess_eval_domains.specs.ClosedViews.{pure_closed}
use Rattle.ess_translate_env.proofs.PlanRows.{domain_at}
use Rattle.ess_translate_env.proofs.plans.closed_plans.Given as goal

abbrev pub invariant-loop-plan : goal.invariant-loop-plan
invariant-loop-plan l = map (option_map pure_closed) l.all ≡ map (domain_at (pure_env l.env)) (take l.plan-index l.plans)
