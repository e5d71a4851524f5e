-- How many operands there are.
use Rattle.std.proofs.Common.{◌≡◌, refl, sym, ap, ◌∙◌, Bool, ℕ, suc, pos, List, [], ◌∷◌, length}
use Rattle.ess_semantics.specs.Trees.{Ex, number_ex, Dom}
use Rattle.ess_semantics.specs.Constants.{operand_count}
use Rattle.ess_guard_laws.specs.Conditions.{has_size}
use Rattle.ess_core_nodes.specs.NodeViews.{pure_nodes}
use Rattle.ess_core_nodes.specs.declared.nodes.Node.{Node}

-- As many as there are nodes.
pub count_operands : (ns : List Node) → operand_count (pure_nodes ns) ≡ length ns
count_operands [] = refl
count_operands (n ∷ ns) = ap suc (count_operands ns)

-- The number of nodes, as a tree, is that of operands.
pub count_number : (e : Ex) (ns : List Node) (n : ℕ) → e ≡ number_ex (pos n) → n ≡ length ns
    → e ≡ number_ex (pos (operand_count (pure_nodes ns)))
count_number e ns n h k = h ∙ ap (λ m. number_ex (pos m)) (k ∙ sym (count_operands ns))

-- A domain has as many numbers as there are operands if it has as many as there are nodes.
pub sized_for : (b : Bool) (d : Dom) (ns : List Node) (n : ℕ) → b ≡ has_size d n → n ≡ length ns
    → b ≡ has_size d (operand_count (pure_nodes ns))
sized_for b d ns n h k = h ∙ ap (has_size d) (k ∙ sym (count_operands ns))
