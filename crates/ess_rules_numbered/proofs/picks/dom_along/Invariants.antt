use Rattle.std.proofs.Common.{◌≡◌, map, drop, Some, option_map}
use Rattle.ess_rules_ordered.specs.ToldForms.{pure_told}
use Rattle.ess_numbered_laws.specs.MostItems.{dom_along}
use Rattle.ess_rules_numbered.specs.PickViews.{pure_pick}
use Rattle.ess_rules_numbered.proofs.picks.dom_along.Given as goal

abbrev pub invariant-loop-pick : goal.invariant-loop-pick
invariant-loop-pick l =
    dom_along (map pure_pick (drop l.pick-index l.path)) (option_map pure_told l.reached)
    ≡ dom_along (map pure_pick l.path) (Some (pure_told l.told))
