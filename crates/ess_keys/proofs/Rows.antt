-- Rows of trees with plain keys are those of the definitions.
use Rattle.std.proofs.Common.{◌≡◌, refl, ap, ◌∙◌, ℕ, ◌≤◌, List, [], ◌∷◌, map, take, length}
use Rattle.std.proofs.lemmas.List.{take_all}
use Rattle.ess_semantics.specs.Trees.{more_exs}
use Rattle.ess_core.specs.TreeViews.{exs_of}
use Rattle.ess_core_nodes.specs.NodeViews.{pure_node, pure_nodes}
use Rattle.ess_core_nodes.specs.declared.nodes.Node.{Node}
use Rattle.ess_keys_laws.specs.KeyForms.{as_index, as_indices}
use Rattle.ess_keys_laws.specs.Keyed.{Around, keyed, keyed_all}

nodes-keyed : (c : Around) (ns : List Node) → exs_of (map (λ m. keyed c (pure_node m)) ns) ≡ keyed_all c (pure_nodes ns)
nodes-keyed c [] = refl
nodes-keyed c (m ∷ ns) = ap (more_exs (keyed c (pure_node m))) (nodes-keyed c ns)

indices-keyed : (c : Around) (ns : List Node)
    → exs_of (map (λ m. as_index c.origins (keyed c (pure_node m))) ns) ≡ as_indices c.origins (keyed_all c (pure_nodes ns))
indices-keyed c [] = refl
indices-keyed c (m ∷ ns) = ap (more_exs (as_index c.origins (keyed c (pure_node m)))) (indices-keyed c ns)

-- Operands, where all are taken.
pub all_keyed : (c : Around) (ns ps : List Node) (i : ℕ) → map pure_node ps ≡ map (λ m. keyed c (pure_node m)) (take i ns) → length ns ≤ i
    → pure_nodes ps ≡ keyed_all c (pure_nodes ns)
all_keyed c ns ps i h le = ap exs_of (h ∙ ap (map (λ m. keyed c (pure_node m))) (take_all i ns le)) ∙ nodes-keyed c ns

-- Indices, where all are taken.
pub all_indices : (c : Around) (ns ps : List Node) (i : ℕ)
    → map pure_node ps ≡ map (λ m. as_index c.origins (keyed c (pure_node m))) (take i ns) → length ns ≤ i
    → pure_nodes ps ≡ as_indices c.origins (keyed_all c (pure_nodes ns))
all_indices c ns ps i h le =
    ap exs_of (h ∙ ap (map (λ m. as_index c.origins (keyed c (pure_node m)))) (take_all i ns le)) ∙ indices-keyed c ns
