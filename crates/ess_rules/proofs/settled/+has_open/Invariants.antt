use Rattle.std.proofs.Common.{◌≡◌, drop}
use Rattle.ess_core_nodes.specs.NodeViews.{pure_nodes, pure_gens}
use Rattle.ess_rules.specs.WaitingConditions.{any_has_open, gens_have_open}
use Rattle.ess_rules.proofs.settled.+has_open.Given as goal

abbrev pub invariant-any_has_open-loop-node : goal.invariant-any_has_open-loop-node
invariant-any_has_open-loop-node l = any_has_open (pure_nodes l.nodes) ≡ any_has_open (pure_nodes (drop l.node-index l.nodes))

abbrev pub invariant-gens_have_open-loop-item : goal.invariant-gens_have_open-loop-item
invariant-gens_have_open-loop-item l = gens_have_open (pure_gens l.gens) ≡ gens_have_open (pure_gens (drop l.item-index l.gens))
