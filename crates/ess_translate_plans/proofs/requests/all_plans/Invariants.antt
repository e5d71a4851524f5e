use Rattle.std.proofs.Common.{[], map, drop}
use Rattle.ess_translate_plans_laws.specs.Laws.{taken_at_first}
use Rattle.ess_translate_plans.specs.Views.{pure_plan}
use Rattle.ess_translate_plans.proofs.Added.{Adding, asked_by}
use Rattle.ess_translate_plans.proofs.requests.all_plans.Given as goal

abbrev pub invariant-loop-stm : goal.invariant-loop-stm
invariant-loop-stm l =
    Adding (asked_by (drop l.stm-index l.stms) l.rest) (asked_by l.stms l.reprs) l.declared [] taken_at_first
    (map pure_plan l.plans) l.tables
