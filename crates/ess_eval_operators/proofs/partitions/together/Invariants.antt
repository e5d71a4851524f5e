use Rattle.std.proofs.Common.{◌≡◌, map, drop}
use Rattle.std.specs.List.{list_any}
use Rattle.ess_semantics.specs.Operators.{within}
use Rattle.ess_core.specs.ValueViews.{pure_val}
use Rattle.ess_eval_operators.proofs.partitions.together.Given as goal

abbrev pub invariant-loop-part : goal.invariant-loop-part
invariant-loop-part l = list_any (λ q. within (pure_val l.members) q) (map pure_val l.parts)
    ≡ list_any (λ q. within (pure_val l.members) q) (map pure_val (drop l.part-index l.parts))
