use Rattle.std.proofs.Common.{◌≡◌, drop}
use Rattle.ess_core_nodes.specs.NodeViews.{pure_nodes}
use Rattle.ess_keys_laws.specs.KeyForms.{are_fixed}
use Rattle.ess_keys.proofs.finding.+fixed.Given as goal

abbrev pub invariant-are_fixed-loop-node : goal.invariant-are_fixed-loop-node
invariant-are_fixed-loop-node l = are_fixed (pure_nodes (drop l.node-index l.nodes)) ≡ are_fixed (pure_nodes l.nodes)
