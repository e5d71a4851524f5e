use Rattle.std.proofs.Common.{◌≡◌, ◌++◌, map, drop}
use Rattle.std.specs.Prelude.{filter}
use Rattle.ess_semantics.specs.Values.{from_of, to_of}
use Rattle.ess_semantics.specs.Order.{same}
use Rattle.ess_core.specs.ValueViews.{pure_val}
use Rattle.ess_eval_operators.proofs.functions.arguments_of.Given as goal

abbrev pub invariant-loop-item : goal.invariant-loop-item
invariant-loop-item l = map pure_val l.found ++ map from_of
    (filter (λ p. same (to_of p) (pure_val l.to)) (map pure_val (drop l.item-index l.items)))
    ≡ map from_of (filter (λ p. same (to_of p) (pure_val l.to)) (map pure_val l.items))
