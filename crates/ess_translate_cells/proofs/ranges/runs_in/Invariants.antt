use Rattle.std.proofs.Common.{◌≡◌, map, take}
use Rattle.ess_eval_domains.specs.ClosedViews.{pure_span}
use Rattle.eprime_eval_scalars.specs.Runs.{pure_run}
use Rattle.ess_translate_cells.proofs.ranges.runs_in.Given as goal

abbrev pub invariant-loop-span : goal.invariant-loop-span
invariant-loop-span l = map pure_run l.runs ≡ map pure_span (take l.span-index l.spans)
