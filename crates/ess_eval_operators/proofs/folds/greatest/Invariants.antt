use Rattle.std.proofs.Common.{◌≡◌, ◌-◌, map, drop, length, option_map}
use Rattle.std.specs.Option.{option_copied}
use Rattle.ess_semantics.specs.Operators.{greatest}
use Rattle.ess_core.specs.ValueViews.{pure_val}
use Rattle.ess_eval_operators.proofs.folds.greatest.Given as goal

abbrev pub invariant-loop-k : goal.invariant-loop-k
invariant-loop-k l = option_map pure_val (option_copied l.found) ≡ greatest (map pure_val (drop (length l.items - l.k) l.items))
