use Rattle.std.proofs.Common.{◌≡◌, ◌+◌, map, drop}
use Rattle.ess_eval_domains.specs.ClosedViews.{pure_span}
use Rattle.ess_domains_cells.specs.Kept.{kept}
use Rattle.ess_domains_cells.specs.Uncovered.{counted_once}
use Rattle.ess_domains_cells.proofs.ranges.number_count.Given as goal

abbrev pub invariant-loop-k : goal.invariant-loop-k
invariant-loop-k l = record {
  so_far : kept (l.count + counted_once (map pure_span (drop l.k l.spans))) ≡ kept (counted_once (map pure_span l.spans));
  counted : kept l.count ≡ l.count;
}
