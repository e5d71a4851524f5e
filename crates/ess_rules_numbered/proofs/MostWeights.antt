-- Parts of trees weigh less: items of rows, and generators.
use Rattle.std.proofs.Common.{◌≡◌, sym, ap, ℕ, zero, suc, ◌+◌, ◌<◌, List, [], ◌∷◌, length, get_or, arith}
use Rattle.ess_core.specs.TreeViews.{Item, over_item, from_item, cond_item, gens_of}
use Rattle.ess_core_nodes.specs.declared.nodes.Node.{Node}
use Rattle.ess_core_nodes.specs.NodeViews.{pure_node, pure_nodes}
use Rattle.ess_guard_forms.proofs.Weights.{weight, weights, weight_gens}

-- An item of a row weighs less than the row.
pub lighter_item : (ns : List Node) (k : ℕ) (x : Node) → k < length ns → x ≡ get_or ns k x
    → weight (pure_node x) < weights (pure_nodes ns)
lighter_item [] k x h is = absurd (omega (arith, h))
lighter_item (n ∷ ns) zero x h is = go (sym (ap (λ v. weight (pure_node v)) is))
  where
    go : weight (pure_node n) ≡ weight (pure_node x) → weight (pure_node x) < 2 + weight (pure_node n) + weights (pure_nodes ns)
    go e = omega (arith, e)
lighter_item (n ∷ ns) (suc k) x h is =
    let l : weight (pure_node x) < weights (pure_nodes ns) = lighter_item ns k x (omega (arith, h)) is in omega (arith, l)

-- What stands behind a generator weighs less than all.
pub lighter_rest : (i : Item) (is : List Item) → 1 + weight_gens (gens_of is) < 1 + weight_gens (gens_of (i ∷ is))
lighter_rest (over_item p d) is = omega arith
lighter_rest (from_item p e) is = omega arith
lighter_rest (cond_item c) is = omega arith

-- A generator alone weighs no more than all.
pub lighter_gen : (i : Item) (is : List Item) → weight_gens (gens_of (i ∷ [])) < 1 + weight_gens (gens_of (i ∷ is))
lighter_gen (over_item p d) is = omega arith
lighter_gen (from_item p e) is = omega arith
lighter_gen (cond_item c) is = omega arith
