use Rattle.std.proofs.Common.{◌≡◌, ◌++◌, map, drop, not}
use Rattle.std.specs.Prelude.{filter}
use Rattle.ess_semantics.specs.Collections.{holds}
use Rattle.ess_core.specs.ValueViews.{pure_val}
use Rattle.ess_eval_operators.proofs.members.remaining.Given as goal

abbrev pub invariant-loop-item : goal.invariant-loop-item
invariant-loop-item l = map pure_val l.kept ++ filter (λ x. not (holds (map pure_val l.others) x))
    (map pure_val (drop l.item-index l.items)) ≡ filter (λ x. not (holds (map pure_val l.others) x)) (map pure_val l.items)
