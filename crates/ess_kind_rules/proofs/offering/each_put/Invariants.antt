use Rattle.std.proofs.Common.{◌≡◌, map, take}
use Rattle.ess_core_nodes.specs.NodeViews.{pure_node, pure_gens}
use Rattle.ess_rules_forms.specs.PureAlternatives.{pure_alternative}
use Rattle.ess_kind_rules.specs.OpenedViews.{put_at}
use Rattle.ess_kind_rules.proofs.offering.each_put.Given as goal

abbrev pub invariant-loop-one : goal.invariant-loop-one
invariant-loop-one l =
    map pure_alternative l.all
    ≡ map (put_at (pure_gens l.first) l.name (pure_node l.body) (pure_gens l.rest)) (map pure_alternative (take l.one-index l.found))
