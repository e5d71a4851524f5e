use Rattle.std.proofs.Common.{◌≡◌, map, take}
use Rattle.ess_semantics.specs.Values.{number}
use Rattle.ess_core.specs.ValueViews.{pure_val}
use Rattle.ess_eval_domains.proofs.numbers.number_values.Given as goal

abbrev pub invariant-loop-number : goal.invariant-loop-number
invariant-loop-number l = map pure_val l.values ≡ map number (take l.number-index l.numbers)
