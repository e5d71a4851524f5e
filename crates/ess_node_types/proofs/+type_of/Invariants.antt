use Rattle.std.proofs.Common.{◌≡◌, ◌++◌, map, drop, option_map}
use Rattle.ess_semantics.specs.Lists.{all_some}
use Rattle.ess_semantics.specs.Typing.{types_of, types_under}
use Rattle.ess_core.specs.TypeViews.{pure_ty}
use Rattle.ess_core_nodes.specs.NodeViews.{pure_nodes, pure_gens}
use Rattle.ess_node_types.specs.TypedNames.{pure_names}
use Rattle.ess_node_types.proofs.Operands.{ahead}
use Rattle.ess_node_types.proofs.+type_of.Given as goal

abbrev pub invariant-expressions::types_of-loop-node : goal.invariant-expressions::types_of-loop-node
invariant-expressions::types_of-loop-node l =
    ahead (map pure_ty l.tys) (all_some (types_of (pure_nodes (drop l.node-index l.nodes)) (pure_names l.names)))
    ≡ all_some (types_of (pure_nodes l.nodes) (pure_names l.names))

abbrev pub invariant-expressions::each_type-loop-node : goal.invariant-expressions::each_type-loop-node
invariant-expressions::each_type-loop-node l =
    map (option_map pure_ty) l.tys ++ types_of (pure_nodes (drop l.node-index l.nodes)) (pure_names l.names)
    ≡ types_of (pure_nodes l.nodes) (pure_names l.names)

abbrev pub invariant-generators::types_under-loop-item : goal.invariant-generators::types_under-loop-item
invariant-generators::types_under-loop-item l =
    types_under (pure_gens (drop l.item-index l.gens)) (pure_names l.under) ≡ types_under (pure_gens l.gens) (pure_names l.names)
