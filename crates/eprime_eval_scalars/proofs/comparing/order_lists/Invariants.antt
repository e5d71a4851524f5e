use Rattle.std.proofs.Common.{◌≡◌, map, drop}
use Rattle.ess_semantics.specs.Values.{of_list}
use Rattle.ess_semantics.specs.Order.{orders}
use Rattle.eprime_eval_scalars.specs.ScalarViews.{pure_scalar}
use Rattle.eprime_eval_scalars.proofs.comparing.order_lists.Given as goal

abbrev pub invariant-loop-i : goal.invariant-loop-i
invariant-loop-i l =
    orders (of_list (map pure_scalar l.a)) (of_list (map pure_scalar l.b)) ≡ orders (of_list (map pure_scalar (drop l.i l.a))) (of_list (map pure_scalar (drop l.i l.b)))
