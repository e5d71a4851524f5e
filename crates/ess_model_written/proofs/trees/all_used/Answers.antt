use Rattle.std.proofs.Common.{◌≡◌, map, subst, Some, None}
use Rattle.std.specs.Prelude.{option_map}
use Rattle.ess_core_nodes.specs.NodeViews.{pure_node}
use Rattle.eprime_tree.specs.Views.{pure_ex}
use Rattle.eprime_read_convert.specs.Lines.{scope_of}
use Rattle.ess_model_written.specs.RulesWritten.{TreeComes, unless_true}
use Rattle.ess_model_written.proofs.Rows.{one_used, one_lacks}
use Rattle.ess_model_written.proofs.trees.all_used.Goals as goal

pub loop-tree-preserved : goal.loop-tree-preserved
loop-tree-preserved c =
    let s = scope_of c.args.lines.now in
    let t = c.tree-item.result in
    let is : c.in_ok-rule.field-0 ≡ Some c.in-Some.rule = cc in
    let came : TreeComes s c.args.taken.now c.args.number (pure_node t) (Some (pure_ex s c.in-Some.rule)) =
    subst (λ o. TreeComes s c.args.taken.now c.args.number (pure_node t) (option_map (pure_ex s) o)) is c.in_ok-rule.ensures in
    one_used (TreeComes s c.args.taken.now c.args.number) pure_node c.args.trees.now c.loop-tree.tree-index unless_true t
    (map (pure_ex s) c.loop-tree.rules) (map (pure_ex s) c.push_unless_true.new.rules) (pure_ex s c.in-Some.rule)
    c.loop-tree-test.true c.tree-item.is (c.in_ok-push_unless_true-in-Some.ensures s) came c.loop-tree.invariant

pub returns-in-None : goal.returns-in-None
returns-in-None c =
    let s = scope_of c.args.lines.now in
    let C = TreeComes s c.args.taken.now c.args.number in
    let t = c.tree-item.result in
    let none : C (pure_node t) None = subst (λ o. C (pure_node t) (option_map (pure_ex s) o)) c.in-None.is c.in_ok-rule.ensures in
    one_lacks C pure_node c.args.trees.now c.loop-tree.tree-index t c.loop-tree-test.true c.tree-item.is none
