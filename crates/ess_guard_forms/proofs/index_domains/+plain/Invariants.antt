use Rattle.std.proofs.Common.{◌≡◌, drop}
use Rattle.ess_core_nodes.specs.NodeViews.{pure_nodes}
use Rattle.ess_guard_laws.specs.IndexDomains.{are_plain_bounds}
use Rattle.ess_guard_forms.proofs.index_domains.+plain.Given as goal

abbrev pub invariant-are_plain_bounds-loop-node : goal.invariant-are_plain_bounds-loop-node
invariant-are_plain_bounds-loop-node l = are_plain_bounds (pure_nodes (drop l.node-index l.nodes)) ≡ are_plain_bounds (pure_nodes l.nodes)
