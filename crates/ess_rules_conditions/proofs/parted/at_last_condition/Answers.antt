use Rattle.std.proofs.Common.{◌≡◌, ◌-◌, ◌<◌, get_or}
use Rattle.ess_core_nodes.specs.NodeViews.{pure_node}
use Rattle.ess_rules_conditions.proofs.PartedGens.{parted_found}
use Rattle.ess_rules_conditions.proofs.parted.at_last_condition.Goals as goal

pub returns-in-Some : goal.returns-in-Some
returns-in-Some c =
    let above : 0 < c.loop-at.at = search in
    let place : c.index-gens-at.result ≡ get_or c.args.gens.now (c.loop-at.at - 1) c.index-gens-at.result = search in
    parted_found c.args.gens.now c.loop-at.at c.index-gens-at.result (pure_node c.in-Some.condition.now) above
    c.loop-at.invariant.within place c.in-Some.ensures c.loop-at.invariant.none
