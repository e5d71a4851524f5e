use Rattle.std.proofs.Common.{◌≡◌, map, drop}
use Rattle.ess_semantics.specs.Collections.{has_empty_part}
use Rattle.ess_core.specs.ValueViews.{pure_val}
use Rattle.ess_eval_operators.proofs.partition_literals.has_empty.Given as goal

abbrev pub invariant-loop-part : goal.invariant-loop-part
invariant-loop-part l = has_empty_part (map pure_val l.parts) ≡ has_empty_part (map pure_val (drop l.part-index l.parts))
