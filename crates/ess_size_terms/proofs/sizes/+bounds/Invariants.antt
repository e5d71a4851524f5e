use Rattle.std.proofs.Common.{◌≡◌, ◌-◌, drop, length}
use Rattle.ess_core_nodes.specs.NodeViews.{pure_node, pure_doms}
use Rattle.ess_repr_declare_laws.specs.SizeTerms.{product_ex, product_behind}
use Rattle.ess_size_terms.proofs.sizes.+bounds.Given as goal

abbrev pub invariant-product-loop-i : goal.invariant-product-loop-i
invariant-product-loop-i l = product_behind (pure_node l.total) (pure_doms (drop l.i l.doms)) ≡ product_ex (pure_doms l.doms)

abbrev pub decreases-product-loop-i : goal.decreases-product-loop-i
decreases-product-loop-i l = length l.doms - l.i
