use Rattle.std.proofs.Common.{◌≡◌, ◌++◌, map, ◌-ℤ◌, ◌≤ℤ◌}
use Rattle.ess_semantics.specs.Values.{number}
use Rattle.ess_semantics.specs.Numbers.{natural}
use Rattle.ess_semantics.specs.Domains.{numbers_up}
use Rattle.ess_eval_domains.proofs.numbers.add_interval.Given as goal

abbrev pub invariant-loop-number : goal.invariant-loop-number
invariant-loop-number l = record {
  so_far : map number l.numbers ≡ map number l.initial.numbers ++ numbers_up l.low (natural (l.number -ℤ l.low));
  above : l.low ≤ℤ l.number;
  below : l.number ≤ℤ l.high;
}
