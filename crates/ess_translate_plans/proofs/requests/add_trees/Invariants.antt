use Rattle.std.proofs.Common.{map, drop}
use Rattle.ess_core.specs.TreeViews.{pure_dom}
use Rattle.ess_translate_plans.specs.Views.{pure_side, pure_plan}
use Rattle.ess_translate_plans.proofs.Added.{Adding, asked}
use Rattle.ess_translate_plans.proofs.requests.add_trees.Given as goal

abbrev pub invariant-loop-tree : goal.invariant-loop-tree
invariant-loop-tree l =
    Adding (asked (pure_side l.side) l.name (pure_dom l.dom) (drop l.tree-index l.trees)) (asked (pure_side l.side) l.name
    (pure_dom l.dom) l.trees) l.declared
    (map pure_plan l.fn.plans) l.fn.tables (map pure_plan l.plans) l.tables
