use Rattle.std.proofs.Common.{rules, ◌≡◌, subst, None}
use Rattle.std.specs.Prelude.{option_map}
use Rattle.ess_core.specs.TreeViews.{pure_ex as pure_code_ex}
use Rattle.ess_core_nodes.specs.NodeViews.{pure_node}
use Rattle.eprime_tree.specs.Views.{pure_ex}
use Rattle.eprime_read_convert.specs.Lines.{scope_of}
use Rattle.ess_model_shown.specs.Tables.{pure_shows}
use Rattle.ess_model_written.specs.RulesWritten.{ConditionComes, ObjectiveComes}
use Rattle.ess_model_written.proofs.Written.{no_rule, no_goal_comes}
use Rattle.ess_model_written.proofs.objectives.both_written.Goals as goal

pub returns-in-None : goal.returns-in-None
returns-in-None c =
    let s = scope_of c.args.lines.now in
    let sh = pure_shows c.args.shows.now in
    let n = pure_node c.get.result.now in
    let is : n ≡ pure_code_ex c.args.ex.now = search rules in
    no_rule s c.args.taken.now sh n (pure_code_ex c.args.ex.now) is
    (subst (λ o. ConditionComes s c.args.taken.now sh n (option_map (pure_ex s) o)) c.in-None.is c.in_ok-condition.ensures)

pub returns : goal.returns
returns c =
    let s = scope_of c.args.lines.now in
    let sh = pure_shows c.args.shows.now in
    let n = pure_node c.get-2.result.now in
    let is : n ≡ pure_code_ex c.args.ex.now = search rules in
    no_goal_comes s c.args.taken.now sh n (pure_code_ex c.args.ex.now) is
    (subst (λ o. ObjectiveComes s c.args.taken.now sh n (option_map (pure_ex s) o)) c.in-None-2.is c.in_ok-objective.ensures)
