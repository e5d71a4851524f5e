-- Names one by one, as operands, as patterns, and further operands behind others.
use Rattle.std.proofs.Common.{◌≡◌, refl, ap, List, [], ◌∷◌, ◌++◌, map}
use Rattle.ess_semantics.specs.Values.{Text}
use Rattle.ess_semantics.specs.Trees.{name_pat, name_ex, more_exs, more_pats}
use Rattle.ess_core.specs.TreeViews.{exs_of, pats_of}
use Rattle.ess_core_nodes.specs.declared.nodes.Node.{Node}
use Rattle.ess_core_nodes.specs.NodeViews.{pure_node, pure_nodes}
use Rattle.ess_rules_laws.specs.FunctionViews.{name_exs, name_pats, append_exs}

-- As operands.
pub names_as_operands : (xs : List Text) → name_exs xs ≡ exs_of (map name_ex xs)
names_as_operands [] = refl
names_as_operands (x ∷ xs) = ap (more_exs (name_ex x)) (names_as_operands xs)

-- As patterns.
pub names_as_patterns : (xs : List Text) → name_pats xs ≡ pats_of (map name_pat xs)
names_as_patterns [] = refl
names_as_patterns (x ∷ xs) = ap (more_pats (name_pat x)) (names_as_patterns xs)

-- Operands of two rows, one behind the other, are those of both.
pub behind_others : (es ks : List Node) → pure_nodes (es ++ ks) ≡ append_exs (pure_nodes es) (pure_nodes ks)
behind_others [] ks = refl
behind_others (e ∷ es) ks = ap (more_exs (pure_node e)) (behind_others es ks)
