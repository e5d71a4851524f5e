use Rattle.std.proofs.Common.{◌≡◌, map, drop, pos, int_le}
use Rattle.std.specs.List.{list_all}
use Rattle.ess_semantics.specs.Collections.{count}
use Rattle.ess_core.specs.ValueViews.{pure_val}
use Rattle.ess_domains_members.proofs.counting.each_at_least.Given as goal

abbrev pub invariant-loop-item : goal.invariant-loop-item
invariant-loop-item l = list_all (λ x. int_le l.number (pos (count (map pure_val l.items) x))) (map pure_val l.items)
    ≡ list_all (λ x. int_le l.number (pos (count (map pure_val l.items) x))) (map pure_val (drop l.item-index l.items))
