use Rattle.std.proofs.Common.{◌≡◌, drop}
use Rattle.ess_core_nodes.specs.NodeViews.{pure_nodes}
use Rattle.ess_node_types.specs.TypedNames.{pure_names}
use Rattle.ess_open_rules_laws.specs.OpenRules.{first_picked}
use Rattle.ess_kind_rules.proofs.picking.first_picked.Given as goal

abbrev pub invariant-loop-operand : goal.invariant-loop-operand
invariant-loop-operand l =
    first_picked l.any (pure_names l.types) l.at (pure_nodes (drop l.operand-index l.operands)) ≡ first_picked l.any (pure_names l.types) 1 (pure_nodes l.operands)
