use Rattle.std.proofs.Common.{◌≡◌, map, take}
use Rattle.ess_semantics.specs.Values.{number}
use Rattle.ess_eval_domains.specs.ClosedViews.{pure_span}
use Rattle.ess_eval_domains.specs.Ranges.{numbers_of_spans}
use Rattle.ess_eval_domains.proofs.numbers.all_numbers.Given as goal

abbrev pub invariant-loop-span : goal.invariant-loop-span
invariant-loop-span l = map number l.numbers ≡ numbers_of_spans (map pure_span (take l.span-index l.spans))
