use Rattle.std.proofs.Common.{map, drop}
use Rattle.ess_core.specs.StatementViews.{pure_stm}
use Rattle.conjure_model_laws.specs.Shown.{shows_nothing, shows_from}
use Rattle.ess_model_shown.specs.Tables.{pure_shows, SameShows}
use Rattle.ess_translate_plans.specs.Views.{pure_plan}
use Rattle.ess_models.proofs.names.shows_of.Given as goal

abbrev pub invariant-loop-stm : goal.invariant-loop-stm
invariant-loop-stm l =
    SameShows (shows_from (map pure_plan l.plans) (map pure_stm (drop l.stm-index l.stms)) (pure_shows l.shows))
    (shows_from (map pure_plan l.plans) (map pure_stm l.stms) shows_nothing)
