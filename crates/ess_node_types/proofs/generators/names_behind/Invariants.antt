use Rattle.std.proofs.Common.{◌≡◌, drop}
use Rattle.ess_semantics.specs.NamesAt.{names_behind}
use Rattle.ess_core_nodes.specs.NodeViews.{pure_gens}
use Rattle.ess_node_types.specs.TypedNames.{pure_names}
use Rattle.ess_node_types.proofs.generators.names_behind.Given as goal

abbrev pub invariant-loop-item : goal.invariant-loop-item
invariant-loop-item l =
    names_behind (pure_gens (drop l.item-index l.gens)) (pure_names l.behind) ≡ names_behind (pure_gens l.gens) (pure_names l.names)
