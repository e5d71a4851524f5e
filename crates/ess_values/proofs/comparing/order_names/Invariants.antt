use Rattle.std.proofs.Common.{◌≡◌, map, drop}
use Rattle.ess_semantics.specs.Names.{keys}
use Rattle.ess_semantics.specs.Order.{order_texts}
use Rattle.ess_core.specs.ValueViews.{pure_field_val}
use Rattle.ess_values.proofs.comparing.order_names.Given as goal

abbrev pub invariant-loop-i : goal.invariant-loop-i
invariant-loop-i l = order_texts (keys (map pure_field_val l.a)) (keys (map pure_field_val l.b)) ≡ order_texts (keys (map pure_field_val (drop l.i l.a))) (keys (map pure_field_val (drop l.i l.b)))
