use Rattle.std.proofs.Common.{◌≡◌, map, drop}
use Rattle.ess_semantics.specs.Operators.{part_with}
use Rattle.ess_core.specs.ValueViews.{pure_val}
use Rattle.ess_eval_operators.proofs.partitions.part_with.Given as goal

abbrev pub invariant-loop-part : goal.invariant-loop-part
invariant-loop-part l = part_with (map pure_val l.parts) (pure_val l.val)
    ≡ part_with (map pure_val (drop l.part-index l.parts)) (pure_val l.val)
