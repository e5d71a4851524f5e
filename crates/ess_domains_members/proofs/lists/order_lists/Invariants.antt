use Rattle.std.proofs.Common.{◌≡◌, map, drop}
use Rattle.ess_semantics.specs.Order.{orders}
use Rattle.ess_core.specs.ValueViews.{pure_vals}
use Rattle.ess_domains_members.proofs.lists.order_lists.Given as goal

abbrev pub invariant-loop-i : goal.invariant-loop-i
invariant-loop-i l = orders (pure_vals l.a) (pure_vals l.b) ≡ orders (pure_vals (drop l.i l.a)) (pure_vals (drop l.i l.b))
