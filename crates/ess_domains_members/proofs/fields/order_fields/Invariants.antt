use Rattle.std.proofs.Common.{◌≡◌, map, drop}
use Rattle.ess_semantics.specs.Names.{keys}
use Rattle.ess_semantics.specs.Order.{order_texts}
use Rattle.ess_core.specs.ValueViews.{pure_field_val}
use Rattle.ess_eval_domains.specs.ClosedViews.{pure_field_closed}
use Rattle.ess_domains_members.proofs.fields.order_fields.Given as goal

abbrev pub invariant-loop-i : goal.invariant-loop-i
invariant-loop-i l = order_texts (keys (map pure_field_closed l.fields)) (keys (map pure_field_val l.vals))
    ≡ order_texts (keys (map pure_field_closed (drop l.i l.fields))) (keys (map pure_field_val (drop l.i l.vals)))
