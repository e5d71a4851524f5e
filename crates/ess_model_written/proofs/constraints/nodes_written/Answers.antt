use Rattle.std.proofs.Common.{rules, ◌≡◌, ◌++◌, [], ◌∷◌, subst, Some, None}
use Rattle.std.specs.Prelude.{option_map}
use Rattle.ess_core_nodes.specs.NodeViews.{pure_node}
use Rattle.eprime_tree.specs.Views.{pure_ex}
use Rattle.eprime_read_convert.specs.Lines.{scope_of}
use Rattle.ess_model_shown.specs.Tables.{pure_shows}
use Rattle.ess_model_written.specs.RulesWritten.{ConstraintComes}
use Rattle.ess_model_written.proofs.Rows.{one_comes, one_lacks}
use Rattle.ess_model_written.proofs.constraints.nodes_written.Goals as goal

pub loop-node-preserved : goal.loop-node-preserved
loop-node-preserved c =
    let s = scope_of c.args.lines.now in
    let sh = pure_shows c.args.shows.now in
    let n = c.node-item.result in
    let is : c.in_ok-rule.field-0 ≡ Some c.in-Some.rule = cc in
    let came : ConstraintComes s c.args.taken.now sh (pure_node n) (Some (pure_ex s c.in-Some.rule)) =
    subst (λ o. ConstraintComes s c.args.taken.now sh (pure_node n) (option_map (pure_ex s) o)) is c.in_ok-rule.ensures in
    let pushed : c.push.new.self ≡ c.loop-node.rules ++ c.in-Some.rule ∷ [] = search rules in
    one_comes (ConstraintComes s c.args.taken.now sh) pure_node c.args.nodes.now c.loop-node.node-index (pure_ex s) n c.loop-node.rules
    c.push.new.self c.in-Some.rule c.loop-node-test.true c.node-item.is pushed came c.loop-node.invariant

pub returns-in-None : goal.returns-in-None
returns-in-None c =
    let s = scope_of c.args.lines.now in
    let C = ConstraintComes s c.args.taken.now (pure_shows c.args.shows.now) in
    let n = c.node-item.result in
    let none : C (pure_node n) None = subst (λ o. C (pure_node n) (option_map (pure_ex s) o)) c.in-None.is c.in_ok-rule.ensures in
    one_lacks C pure_node c.args.nodes.now c.loop-node.node-index n c.loop-node-test.true c.node-item.is none
