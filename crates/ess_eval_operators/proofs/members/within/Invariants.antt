use Rattle.std.proofs.Common.{◌≡◌, map, drop}
use Rattle.std.specs.Prelude.{nat_le}
use Rattle.std.specs.List.{list_all}
use Rattle.ess_semantics.specs.Collections.{count}
use Rattle.ess_core.specs.ValueViews.{pure_val}
use Rattle.ess_eval_operators.proofs.members.within.Given as goal

abbrev pub invariant-loop-item : goal.invariant-loop-item
invariant-loop-item l = list_all (λ x. nat_le (count (map pure_val l.items) x) (count (map pure_val l.others) x)) (map pure_val l.items)
    ≡ list_all (λ x. nat_le (count (map pure_val l.items) x) (count (map pure_val l.others) x)) (map pure_val (drop l.item-index l.items))
