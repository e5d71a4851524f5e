use Rattle.std.proofs.Common.{◌≡◌, drop}
use Rattle.std.specs.List.{list_all}
use Rattle.ess_semantics.specs.Typing.{types_of}
use Rattle.ess_core_nodes.specs.NodeViews.{pure_nodes}
use Rattle.ess_refine_laws.specs.ScalarItems.{is_scalar}
use Rattle.ess_node_types.specs.TypedNames.{pure_names}
use Rattle.ess_rules_sizes.proofs.scalars.are_scalars.Given as goal

abbrev pub invariant-loop-node : goal.invariant-loop-node
invariant-loop-node l =
    list_all is_scalar (types_of (pure_nodes l.nodes) (pure_names l.types))
    ≡ list_all is_scalar (types_of (pure_nodes (drop l.node-index l.nodes)) (pure_names l.types))
