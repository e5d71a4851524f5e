use Rattle.std.proofs.Common.{◌≡◌, ◌++◌, ◌≤ℤ◌, map}
use Rattle.ess_semantics.specs.Domains.{interval}
use Rattle.ess_core.specs.ValueViews.{pure_val}
use Rattle.ess_values.proofs.literals.index.push_interval.Given as goal

abbrev pub invariant-loop-number : goal.invariant-loop-number
invariant-loop-number l = record {
  whole : map pure_val l.out ++ interval l.number l.span.high ≡ map pure_val l.fn.out ++ interval l.span.low l.span.high;
  within : l.number ≤ℤ l.span.high;
}
