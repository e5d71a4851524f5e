use Rattle.std.proofs.Common.{map}
use Rattle.ess_core_nodes.specs.NodeViews.{pure_dom}
use Rattle.ess_declared_trees.specs.TableViews.{pure_declared}
use Rattle.ess_declared_trees.proofs.ChildSteps.{left_trees, no_domain_left}
use Rattle.ess_declared_trees.proofs.EndingLaws.{trees_are}
use Rattle.ess_declared_trees.proofs.trees.+trees.Goals as goal

pub trees_below-returns : goal.trees_below-returns
trees_below-returns t c =
    trees_are c.behind.result c.args.out c.frees_below-free.result c.args.repr.now (pure_dom c.args.dom.now)
    (map pure_declared c.in_ok-own.own) (map pure_declared c.in_ok-others.others) c.in_ok-names.names c.as_slice-2.result.now
    c.in_ok-doms.doms c.as_slice-3.result.now c.in_ok-axes.axes c.as_slice-4.result.now c.as_slice.result.now
    c.in_ok-own.ensures c.in_ok-axes.ensures c.in_ok-names.ensures c.in_ok-doms.ensures
    c.frees_below-free.ensures c.as_slice.ensures c.as_slice-2.ensures c.as_slice-3.ensures c.as_slice-4.ensures
    c.in_ok-others.ensures c.behind.ensures

pub trees_of_children-returns-then-i-doms : goal.trees_of_children-returns-then-i-doms
trees_of_children-returns-then-i-doms t c =
    no_domain_left c.args.out c.args.children.now c.args.names.now c.args.doms.now (map pure_dom c.args.axes.now) c.loop-i.i
    (map pure_declared c.loop-i.all)
    (left_trees c.args.out c.args.children.now c.args.names.now c.args.doms.now (map pure_dom c.args.axes.now))
    c.if-i-doms.true c.loop-i.invariant
