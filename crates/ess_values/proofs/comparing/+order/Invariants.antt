use Rattle.std.proofs.Common.{◌≡◌, map, drop}
use Rattle.ess_semantics.specs.Values.{of_list}
use Rattle.ess_semantics.specs.Order.{orders}
use Rattle.ess_core.specs.ValueViews.{pure_vals, pure_field_val, pure_pair}
use Rattle.ess_values.proofs.comparing.+order.Given as goal

abbrev pub invariant-order_vals-loop-i : goal.invariant-order_vals-loop-i
invariant-order_vals-loop-i l = orders (pure_vals l.a) (pure_vals l.b) ≡ orders (pure_vals (drop l.i l.a)) (pure_vals (drop l.i l.b))

abbrev pub invariant-order_fields-loop-i : goal.invariant-order_fields-loop-i
invariant-order_fields-loop-i l =
    orders (of_list (map (λ f. f.1) (map pure_field_val l.a))) (of_list (map (λ f. f.1) (map pure_field_val l.b)))
    ≡ orders (of_list (map (λ f. f.1) (map pure_field_val (drop l.i l.a)))) (of_list (map (λ f. f.1) (map pure_field_val (drop l.i l.b))))

abbrev pub invariant-order_pairs-loop-i : goal.invariant-order_pairs-loop-i
invariant-order_pairs-loop-i l = orders (of_list (map pure_pair l.a)) (of_list (map pure_pair l.b)) ≡ orders (of_list (map pure_pair (drop l.i l.a))) (of_list (map pure_pair (drop l.i l.b)))
