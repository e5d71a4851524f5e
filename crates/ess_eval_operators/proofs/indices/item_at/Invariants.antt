use Rattle.std.proofs.Common.{◌≡◌, drop}
use Rattle.ess_semantics.specs.Operators.{item_at}
use Rattle.ess_core.specs.ValueViews.{pure_val, pure_vals}
use Rattle.ess_eval_operators.proofs.indices.item_at.Given as goal

abbrev pub invariant-loop-i : goal.invariant-loop-i
invariant-loop-i l = item_at (pure_vals l.index) (pure_vals l.items) (pure_val l.at)
    ≡ item_at (pure_vals (drop l.i l.index)) (pure_vals (drop l.i l.items)) (pure_val l.at)
