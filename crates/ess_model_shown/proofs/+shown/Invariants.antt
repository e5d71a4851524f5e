use Rattle.std.proofs.Common.{◌≡◌, map, take}
use Rattle.ess_core_nodes.specs.NodeViews.{pure_node, pure_gen, pure_dom}
use Rattle.conjure_model_laws.specs.Shown.{shown, shown_dom}
use Rattle.ess_model_shown.specs.ShownParts.{shown_item}
use Rattle.ess_model_shown.specs.Tables.{pure_shows}
use Rattle.ess_model_shown.proofs.+shown.Given as goal

abbrev pub invariant-showing::shown_all-loop-node : goal.invariant-showing::shown_all-loop-node
invariant-showing::shown_all-loop-node l =
    map pure_node l.all ≡ map (shown (pure_shows l.shows)) (map pure_node (take l.node-index l.nodes))

abbrev pub invariant-showing::shown_gens-loop-item : goal.invariant-showing::shown_gens-loop-item
invariant-showing::shown_gens-loop-item l =
    map pure_gen l.all ≡ map (shown_item (pure_shows l.shows)) (map pure_gen (take l.item-index l.gens))

abbrev pub invariant-shown_domains::shown_doms-loop-dom : goal.invariant-shown_domains::shown_doms-loop-dom
invariant-shown_domains::shown_doms-loop-dom l =
    map pure_dom l.all ≡ map (shown_dom (pure_shows l.shows)) (map pure_dom (take l.dom-index l.doms))
