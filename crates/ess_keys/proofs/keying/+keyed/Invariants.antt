use Rattle.std.proofs.Common.{◌≡◌, ◌++◌, map, take, drop}
use Rattle.ess_core_nodes.specs.NodeViews.{pure_node, pure_gen}
use Rattle.ess_keys_laws.specs.KeyForms.{as_index}
use Rattle.ess_keys_laws.specs.Keyed.{keyed}
use Rattle.ess_keys.specs.Views.{pure_around}
use Rattle.ess_keys.specs.Steps.{items_of, behind_items}
use Rattle.ess_keys.proofs.keying.+keyed.Given as goal

abbrev pub invariant-keyed_nodes-loop-node : goal.invariant-keyed_nodes-loop-node
invariant-keyed_nodes-loop-node l = map pure_node l.all ≡ map (λ n. keyed (pure_around l.around) (pure_node n)) (take l.node-index l.nodes)

abbrev pub invariant-keyed_indices-loop-node : goal.invariant-keyed_indices-loop-node
invariant-keyed_indices-loop-node l =
    map pure_node l.all
    ≡ map (λ n. as_index (pure_around l.around).origins (keyed (pure_around l.around) (pure_node n))) (take l.node-index l.nodes)

abbrev pub invariant-keyed_gens-loop-item : goal.invariant-keyed_gens-loop-item
invariant-keyed_gens-loop-item l = record {
  gens : map pure_gen l.all ++ items_of (pure_around l.around) (map pure_gen (drop l.item-index l.gens))
      ≡ items_of (pure_around l.initial.around) (map pure_gen l.gens);
  around : behind_items (pure_around l.around) (map pure_gen (drop l.item-index l.gens))
      ≡ behind_items (pure_around l.initial.around) (map pure_gen l.gens);
  behind : l.behind ≡ drop l.item-index l.gens;
}
