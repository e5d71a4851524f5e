use Rattle.std.proofs.Common.{map}
use Rattle.ess_core.specs.StatementViews.{pure_stm}
use Rattle.conjure_model_laws.specs.Shown.{shows_nothing, shows_from}
use Rattle.ess_model_shown.specs.Tables.{pure_shows}
use Rattle.ess_translate_plans.specs.Views.{pure_plan}
use Rattle.ess_models.proofs.Behind.{behind_more, behind_all}
use Rattle.ess_models.proofs.names.shows_of.Goals as goal

pub loop-stm-preserved : goal.loop-stm-preserved
loop-stm-preserved c =
    let Ps = map pure_plan c.args.plans.now in
    behind_more Ps c.args.stms.now c.loop-stm.stm-index c.stm-item.result (pure_shows c.loop-stm.shows) (pure_shows c.shows_behind.new.shows)
    (shows_from Ps (map pure_stm c.args.stms.now) shows_nothing) c.loop-stm-test.true c.stm-item.is c.in_ok-shows_behind.ensures
    c.loop-stm.invariant

pub returns : goal.returns
returns c =
    let Ps = map pure_plan c.args.plans.now in
    behind_all Ps c.args.stms.now c.loop-stm.stm-index (pure_shows c.loop-stm.shows)
    (shows_from Ps (map pure_stm c.args.stms.now) shows_nothing) c.loop-stm-test.false c.loop-stm.invariant
