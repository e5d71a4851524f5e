-- One more operand behind the others.
use Rattle.std.proofs.Common.{◌≡◌, refl, ap, List, [], ◌∷◌, ◌++◌}
use Rattle.ess_semantics.specs.Trees.{more_exs}
use Rattle.ess_core_nodes.specs.declared.nodes.Node.{Node}
use Rattle.ess_core_nodes.specs.NodeViews.{pure_node, pure_nodes}
use Rattle.ess_rules_laws.specs.SetListings.{put_last}

-- It stands last in the row.
pub last_behind : (es : List Node) (e : Node) → pure_nodes (es ++ e ∷ []) ≡ put_last (pure_nodes es) (pure_node e)
last_behind [] e = refl
last_behind (a ∷ es) e = ap (more_exs (pure_node a)) (last_behind es e)
