use Rattle.std.proofs.Common.{◌≡◌, map, drop}
use Rattle.ess_eval_domains.specs.ClosedViews.{pure_span}
use Rattle.ess_domains_cells.specs.Sweeps.{next_start}
use Rattle.ess_domains_cells.proofs.ranges.next_start.Given as goal

abbrev pub invariant-loop-span : goal.invariant-loop-span
invariant-loop-span l = next_start (map pure_span l.spans) l.number l.end ≡ next_start (map pure_span (drop l.span-index l.spans)) l.number l.next
