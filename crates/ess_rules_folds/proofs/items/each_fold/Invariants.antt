use Rattle.std.proofs.Common.{◌≡◌, map, take}
use Rattle.ess_core_nodes.specs.NodeViews.{pure_node, pure_gens}
use Rattle.ess_rules_folds.specs.FoldParts.{item_fold}
use Rattle.ess_rules_folds.proofs.items.each_fold.Given as goal

abbrev pub invariant-loop-item : goal.invariant-loop-item
invariant-loop-item l =
    map pure_node l.all
    ≡ map (item_fold l.fold.mark l.fold.fun l.fold.name.now (pure_node l.fold.body.now) (pure_gens l.fold.rest.now))
    (map pure_node (take l.item-index l.items))
