use Rattle.std.proofs.Common.{◌≡◌, map, drop}
use Rattle.ess_eval_domains.specs.ClosedViews.{pure_span}
use Rattle.ess_domains_cells.specs.Sweeps.{end_of}
use Rattle.ess_domains_cells.proofs.ranges.end_of.Given as goal

abbrev pub invariant-loop-span : goal.invariant-loop-span
invariant-loop-span l = end_of (map pure_span l.spans) l.number ≡ end_of (map pure_span (drop l.span-index l.spans)) l.number
