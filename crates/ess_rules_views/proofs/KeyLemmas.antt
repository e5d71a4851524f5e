-- Indices behind others.
use Rattle.std.proofs.Common.{◌≡◌, refl, ap, List, [], ◌∷◌, ◌++◌}
use Rattle.ess_semantics.specs.Trees.{more_exs}
use Rattle.ess_core_nodes.specs.declared.nodes.Node.{Node}
use Rattle.ess_core_nodes.specs.NodeViews.{pure_node, pure_nodes}
use Rattle.ess_rules_laws.specs.FunctionViews.{append_exs}

-- Operands of two rows, one behind the other, are those of both.
pub behind_others : (es ks : List Node) → append_exs (pure_nodes es) (pure_nodes ks) ≡ pure_nodes (es ++ ks)
behind_others [] ks = refl
behind_others (e ∷ es) ks = ap (more_exs (pure_node e)) (behind_others es ks)
