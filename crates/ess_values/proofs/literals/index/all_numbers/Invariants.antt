use Rattle.std.proofs.Common.{◌≡◌, map, drop}
use Rattle.ess_core.specs.ValueViews.{pure_val}
use Rattle.ess_core.specs.TreeViews.{pure_range}
use Rattle.ess_values.specs.Ranges.{numbers_of}
use Rattle.ess_values.proofs.Ahead.{ahead}
use Rattle.ess_values.proofs.literals.index.all_numbers.Given as goal

abbrev pub invariant-loop-range : goal.invariant-loop-range
invariant-loop-range l = ahead (map pure_val l.found) (numbers_of l.count (map pure_range (drop l.range-index l.ranges))) ≡ numbers_of l.count (map pure_range l.ranges)
