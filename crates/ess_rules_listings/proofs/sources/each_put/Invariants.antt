use Rattle.std.proofs.Common.{◌≡◌, map, take}
use Rattle.ess_core_nodes.specs.NodeViews.{pure_node, pure_gens}
use Rattle.ess_refine_laws.specs.ExtremeAlternatives.{put_alternative}
use Rattle.ess_rules_forms.specs.PureAlternatives.{pure_alternative}
use Rattle.ess_rules_listings.proofs.sources.each_put.Given as goal

abbrev pub invariant-loop-one : goal.invariant-loop-one
invariant-loop-one l =
    map pure_alternative l.all
    ≡ map (put_alternative l.fold.name.now (pure_node l.fold.body.now) (pure_gens l.fold.rest.now))
    (map pure_alternative (take l.one-index l.found))
