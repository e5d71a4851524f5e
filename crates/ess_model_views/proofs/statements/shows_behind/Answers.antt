use Rattle.std.proofs.Common.{rules, ◌≡◌, map}
use Rattle.ess_semantics.specs.Trees.{given, find}
use Rattle.ess_core.specs.TreeViews.{pure_dom}
use Rattle.ess_core.specs.StatementViews.{pure_stm}
use Rattle.ess_translate_plans.specs.Views.{pure_plan}
use Rattle.ess_model_views.proofs.StatementLaws.{given_behind, find_behind}
use Rattle.ess_model_views.proofs.statements.shows_behind.Goals as goal

pub returns-in-Given : goal.returns-in-Given
returns-in-Given c =
    let is : pure_stm c.args.stm.now ≡ given c.in-Given.name (pure_dom c.get.result.now) = search rules in
    given_behind c.declared.result (map pure_plan c.args.plans.now) (pure_stm c.args.stm.now) _ _ _ _ is c.declared.ensures

pub returns-in-Find : goal.returns-in-Find
returns-in-Find c =
    let is : pure_stm c.args.stm.now ≡ find c.in-Find.name (pure_dom c.get-in-Find.result.now) = search rules in
    find_behind c.declared-in-Find.result (map pure_plan c.args.plans.now) (pure_stm c.args.stm.now) _ _ _ _ is c.declared-in-Find.ensures
