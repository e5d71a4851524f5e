use Rattle.std.proofs.Common.{◌≡◌, ◌++◌, map, take, drop}
use Rattle.ess_core_nodes.specs.NodeViews.{pure_node, pure_nodes, pure_gen, pure_dom, pure_doms}
use Rattle.ess_guard_laws.specs.Guard.{guarded, guarded_dom, conditions_all, conditions_doms}
use Rattle.ess_guard_forms.specs.KnownNames.{pure_known}
use Rattle.ess_guard.specs.Steps.{known_after, steps_of, items_of}
use Rattle.ess_guard.specs.StepViews.{pure_step}
use Rattle.ess_guard.proofs.+guard.Given as goal

abbrev pub invariant-guarding::guard_nodes-loop-node : goal.invariant-guarding::guard_nodes-loop-node
invariant-guarding::guard_nodes-loop-node l = record {
  nodes : map pure_node l.parts
      ≡ map (λ n. guarded l.rules.natural l.rules.first l.rules.second (pure_known l.known) (pure_node n)) (take l.node-index l.nodes);
  asked : map pure_node l.conditions
      ++ conditions_all l.rules.natural l.rules.first l.rules.second (pure_known l.known) l.there (pure_nodes (drop l.node-index l.nodes))
      ≡ conditions_all l.rules.natural l.rules.first l.rules.second (pure_known l.known) l.there (pure_nodes l.nodes);
}

abbrev pub invariant-guarding_domains::guard_doms-loop-dom : goal.invariant-guarding_domains::guard_doms-loop-dom
invariant-guarding_domains::guard_doms-loop-dom l = record {
  doms : map pure_dom l.parts
      ≡ map (λ d. guarded_dom l.rules.natural l.rules.first l.rules.second (pure_known l.known) (pure_dom d)) (take l.dom-index l.doms);
  asked : map pure_node l.conditions
      ++ conditions_doms l.rules.natural l.rules.first l.rules.second (pure_known l.known) (pure_doms (drop l.dom-index l.doms))
      ≡ conditions_doms l.rules.natural l.rules.first l.rules.second (pure_known l.known) (pure_doms l.doms);
}

abbrev pub invariant-guarding::guard_gens-loop-item : goal.invariant-guarding::guard_gens-loop-item
invariant-guarding::guard_gens-loop-item l = record {
  gens : map pure_gen l.gens ≡ items_of (map pure_step l.steps);
  steps : map pure_step l.steps
      ++ steps_of l.rules.natural l.rules.first l.rules.second (pure_known l.known) (map pure_gen (drop l.item-index l.items))
      ≡ steps_of l.rules.natural l.rules.first l.rules.second (pure_known l.initial.known) (map pure_gen l.items);
  known : known_after (map pure_gen (drop l.item-index l.items)) (pure_known l.known)
      ≡ known_after (map pure_gen l.items) (pure_known l.initial.known);
}
