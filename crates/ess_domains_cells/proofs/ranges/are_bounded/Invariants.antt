use Rattle.std.proofs.Common.{◌≡◌, map, drop}
use Rattle.ess_eval_domains.specs.ClosedViews.{pure_span}
use Rattle.ess_eval_domains.specs.Ranges.{all_bounded}
use Rattle.ess_domains_cells.proofs.ranges.are_bounded.Given as goal

abbrev pub invariant-loop-span : goal.invariant-loop-span
invariant-loop-span l = all_bounded (map pure_span l.spans) ≡ all_bounded (map pure_span (drop l.span-index l.spans))
