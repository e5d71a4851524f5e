-- Rows of trees made total are those of the definitions.
use Rattle.std.proofs.Common.{◌≡◌, refl, ap, ◌∙◌, Bool, ℕ, ◌≤◌, List, [], ◌∷◌, map, take, length}
use Rattle.std.proofs.lemmas.List.{take_all}
use Rattle.ess_semantics.specs.Values.{Text}
use Rattle.ess_semantics.specs.Names.{Names}
use Rattle.ess_semantics.specs.Trees.{more_exs, more_doms}
use Rattle.ess_semantics.specs.Kinds.{doms_of}
use Rattle.ess_core.specs.TreeViews.{exs_of}
use Rattle.ess_core_nodes.specs.NodeViews.{pure_node, pure_nodes, pure_dom, pure_doms}
use Rattle.ess_core_nodes.specs.declared.nodes.Node.{Node}
use Rattle.ess_core_nodes.specs.declared.nodes.NodeDom.{NodeDom}
use Rattle.ess_guard_laws.specs.Origins.{Origin}
use Rattle.ess_guard_laws.specs.Guard.{guarded, guarded_all, guarded_dom, guarded_doms}

nodes-guarded : (n : Bool) (x y : Text) (k : Names Origin) (ns : List Node)
    → exs_of (map (λ m. guarded n x y k (pure_node m)) ns) ≡ guarded_all n x y k (pure_nodes ns)
nodes-guarded n x y k [] = refl
nodes-guarded n x y k (m ∷ ns) = ap (more_exs (guarded n x y k (pure_node m))) (nodes-guarded n x y k ns)

-- Several expressions, where all are taken.
pub all_guarded : (n : Bool) (x y : Text) (k : Names Origin) (ns ps : List Node) (i : ℕ)
    → map pure_node ps ≡ map (λ m. guarded n x y k (pure_node m)) (take i ns)
    → length ns ≤ i
    → pure_nodes ps ≡ guarded_all n x y k (pure_nodes ns)
all_guarded n x y k ns ps i h le =
    ap exs_of (h ∙ ap (map (λ m. guarded n x y k (pure_node m))) (take_all i ns le)) ∙ nodes-guarded n x y k ns

doms-guarded : (n : Bool) (x y : Text) (k : Names Origin) (ds : List NodeDom)
    → doms_of (map (λ d. guarded_dom n x y k (pure_dom d)) ds) ≡ guarded_doms n x y k (pure_doms ds)
doms-guarded n x y k [] = refl
doms-guarded n x y k (d ∷ ds) = ap (more_doms (guarded_dom n x y k (pure_dom d))) (doms-guarded n x y k ds)

-- Several domains, where all are taken.
pub doms_guarded : (n : Bool) (x y : Text) (k : Names Origin) (ds ps : List NodeDom) (i : ℕ)
    → map pure_dom ps ≡ map (λ d. guarded_dom n x y k (pure_dom d)) (take i ds)
    → length ds ≤ i
    → pure_doms ps ≡ guarded_doms n x y k (pure_doms ds)
doms_guarded n x y k ds ps i h le =
    ap doms_of (h ∙ ap (map (λ d. guarded_dom n x y k (pure_dom d))) (take_all i ds le)) ∙ doms-guarded n x y k ds
