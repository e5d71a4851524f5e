-- What is made item by item is what is made of all of them.
use Rattle.std.proofs.Common.{◌≡◌, refl, ap, ◌∙◌, true, false, List, [], ◌∷◌, map}
use Rattle.ess_semantics.specs.declared.words.Op2.{Op2}
use Rattle.ess_semantics.specs.declared.words.Fun.{Fun}
use Rattle.ess_semantics.specs.Trees.{Ex, more_exs, ex2, fun1}
use Rattle.ess_core.specs.TreeViews.{exs_of}
use Rattle.ess_core_nodes.specs.declared.nodes.Node.{Node}
use Rattle.ess_core_nodes.specs.NodeViews.{pure_node, pure_nodes}
use Rattle.ess_rules_laws.specs.ShortSizeRules.{ones_where}

ones-items : (a : Ex) (ns : List Node)
    → exs_of (map (λ b. fun1 false Fun.ToInt (ex2 true Op2.Eq (pure_node b) a)) ns) ≡ ones_where a (pure_nodes ns)
ones-items a [] = refl
ones-items a (n ∷ ns) = ap (more_exs (fun1 false Fun.ToInt (ex2 true Op2.Eq (pure_node n) a))) (ones-items a ns)

-- Ones for items, one by one.
pub ones_each : (a : Ex) (ns ms : List Node) → map pure_node ms ≡ map (λ b. fun1 false Fun.ToInt (ex2 true Op2.Eq (pure_node b) a)) ns
    → pure_nodes ms ≡ ones_where a (pure_nodes ns)
ones_each a ns ms e = ap exs_of e ∙ ones-items a ns
