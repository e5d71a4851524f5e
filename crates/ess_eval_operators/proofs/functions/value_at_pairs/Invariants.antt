use Rattle.std.proofs.Common.{◌≡◌, map, drop}
use Rattle.ess_semantics.specs.Collections.{value_at}
use Rattle.ess_core.specs.ValueViews.{pure_val, pure_pair}
use Rattle.ess_eval_operators.proofs.functions.value_at_pairs.Given as goal

abbrev pub invariant-loop-pair : goal.invariant-loop-pair
invariant-loop-pair l = value_at (map pure_pair l.pairs) (pure_val l.at)
    ≡ value_at (map pure_pair (drop l.pair-index l.pairs)) (pure_val l.at)
