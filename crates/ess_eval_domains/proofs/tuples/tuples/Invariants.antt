use Rattle.std.proofs.Common.{◌≡◌, map}
use Rattle.ess_semantics.specs.Values.{of_list, tuple}
use Rattle.ess_core.specs.ValueViews.{pure_val}
use Rattle.ess_eval_domains.proofs.tuples.tuples.Given as goal

abbrev pub invariant-loop-list : goal.invariant-loop-list
invariant-loop-list l = map pure_val l.tuples ≡ map (λ x. tuple (of_list x)) (map (map pure_val) l.yielded)
