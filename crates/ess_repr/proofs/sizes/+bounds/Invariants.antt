use Rattle.std.proofs.Common.{◌≡◌, ◌-◌, drop, length}
use Rattle.ess_core.specs.TreeViews.{pure_ex, pure_doms}
use Rattle.ess_repr_declare_laws.specs.SizeTerms.{product_ex, product_behind}
use Rattle.ess_repr.proofs.SizeSteps.{fields}
use Rattle.ess_repr.proofs.sizes.+bounds.Given as goal

abbrev pub invariant-product-loop-i : goal.invariant-product-loop-i
invariant-product-loop-i l = product_behind (pure_ex l.total) (pure_doms (drop l.i l.doms)) ≡ product_ex (pure_doms l.doms)

abbrev pub decreases-product-loop-i : goal.decreases-product-loop-i
decreases-product-loop-i l = length l.doms - l.i

abbrev pub invariant-product_of_fields-loop-i : goal.invariant-product_of_fields-loop-i
invariant-product_of_fields-loop-i l = product_behind (pure_ex l.total) (fields (drop l.i l.fields)) ≡ product_ex (fields l.fields)

abbrev pub decreases-product_of_fields-loop-i : goal.decreases-product_of_fields-loop-i
decreases-product_of_fields-loop-i l = length l.fields - l.i
