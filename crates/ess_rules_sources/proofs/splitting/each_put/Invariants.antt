use Rattle.std.proofs.Common.{◌≡◌, map, take}
use Rattle.ess_core_nodes.specs.NodeViews.{pure_node, pure_gens}
use Rattle.ess_rules_forms.specs.PureAlternatives.{pure_alternative}
use Rattle.ess_rules_sources.specs.PureAlternatives.{put_fold}
use Rattle.ess_rules_sources.proofs.splitting.each_put.Given as goal

abbrev pub invariant-loop-one : goal.invariant-loop-one
invariant-loop-one l =
    map pure_node l.all
    ≡ map (put_fold l.fold.mark l.fold.fun l.fold.name.now (pure_node l.fold.body.now) (pure_gens l.fold.rest.now))
    (map pure_alternative (take l.one-index l.offered))
