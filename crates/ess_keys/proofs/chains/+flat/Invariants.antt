use Rattle.std.proofs.Common.{◌≡◌, drop}
use Rattle.ess_core_nodes.specs.NodeViews.{pure_nodes}
use Rattle.ess_keys_laws.specs.Chains.{are_of_flat_form}
use Rattle.ess_keys.proofs.chains.+flat.Given as goal

abbrev pub invariant-are_of_flat_form-loop-node : goal.invariant-are_of_flat_form-loop-node
invariant-are_of_flat_form-loop-node l = are_of_flat_form (pure_nodes (drop l.node-index l.nodes)) ≡ are_of_flat_form (pure_nodes l.nodes)
