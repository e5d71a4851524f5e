use Rattle.std.proofs.Common.{◌≡◌, ◌++◌, map, drop}
use Rattle.ess_semantics.specs.Lists.{zip}
use Rattle.ess_semantics.specs.Names.{keys}
use Rattle.ess_core.specs.TreeViews.{pure_field_ex}
use Rattle.ess_core.specs.ValueViews.{pure_val, pure_field_val}
use Rattle.ess_eval_operators.proofs.records.named_vals.Given as goal

abbrev pub invariant-loop-i : goal.invariant-loop-i
invariant-loop-i l = map pure_field_val l.named ++ zip (keys (map pure_field_ex (drop l.i l.fields))) (map pure_val (drop l.i l.vals))
    ≡ zip (keys (map pure_field_ex l.fields)) (map pure_val l.vals)
