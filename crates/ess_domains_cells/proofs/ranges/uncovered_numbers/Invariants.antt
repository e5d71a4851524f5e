use Rattle.std.proofs.Common.{◌≡◌, ◌+◌, map, ◌≤ℤ◌}
use Rattle.ess_eval_domains.specs.ClosedViews.{pure_span}
use Rattle.ess_domains_cells.specs.Kept.{kept}
use Rattle.ess_domains_cells.specs.Uncovered.{uncovered, distance}
use Rattle.ess_domains_cells.proofs.ranges.uncovered_numbers.Given as goal

abbrev pub invariant-loop-at : goal.invariant-loop-at
invariant-loop-at l = record {
  so_far : kept (l.count + uncovered (map pure_span l.spans) l.at (distance l.at l.high)) ≡ kept (uncovered (map pure_span l.spans) l.low (distance l.low l.high));
  counted : kept l.count ≡ l.count;
  below : l.at ≤ℤ l.high;
}

abbrev pub decreases-loop-at : goal.decreases-loop-at
decreases-loop-at l = distance l.at l.high
