use Rattle.std.proofs.Common.{◌≡◌, ◌+◌, ◌≤◌, map, drop}
use Rattle.ess_semantics.specs.Collections.{count}
use Rattle.ess_core.specs.ValueViews.{pure_val}
use Rattle.ess_repr_sets.proofs.times.count.Given as goal

abbrev pub invariant-loop-item : goal.invariant-loop-item
invariant-loop-item l = record {
  counted : l.found + count (map pure_val (drop l.item-index l.items)) (pure_val l.val)
      ≡ count (map pure_val l.items) (pure_val l.val);
  few : l.found ≤ l.item-index;
}
