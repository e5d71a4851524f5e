use Rattle.std.proofs.Common.{◌≡◌, ◌++◌, map, drop}
use Rattle.ess_core.specs.TreeViews.{cond_item}
use Rattle.ess_core_nodes.specs.NodeViews.{pure_nodes, pure_gen}
use Rattle.ess_guard_forms.specs.KnownNames.{pure_known}
use Rattle.ess_keys_laws.specs.Keyed.{all_conjuncts}
use Rattle.ess_keys.proofs.forms.+conjuncts.Given as goal

abbrev pub invariant-all_conjuncts-loop-node : goal.invariant-all_conjuncts-loop-node
invariant-all_conjuncts-loop-node l =
    map pure_gen l.all ++ map cond_item (all_conjuncts (pure_known l.known) (pure_nodes (drop l.node-index l.nodes)))
    ≡ map cond_item (all_conjuncts (pure_known l.known) (pure_nodes l.nodes))
