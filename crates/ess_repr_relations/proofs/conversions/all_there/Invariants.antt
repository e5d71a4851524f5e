use Rattle.std.proofs.Common.{◌≡◌, map, Some, option_map}
use Rattle.ess_core.specs.ValueViews.{pure_val}
use Rattle.ess_repr_relations.proofs.conversions.all_there.Given as goal

abbrev pub invariant-loop-val : goal.invariant-loop-val
invariant-loop-val l = map (option_map pure_val) l.there ≡ map (λ v. Some v) (map pure_val l.yielded)
