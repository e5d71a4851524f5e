use Rattle.std.proofs.Common.{◌≡◌, ◌-◌, map, drop, length, option_map}
use Rattle.ess_semantics.specs.Operators.{greatest}
use Rattle.eprime_eval_scalars.specs.ScalarViews.{pure_scalar}
use Rattle.eprime_eval_scalars.proofs.folding.greatest.Given as goal

abbrev pub invariant-loop-k : goal.invariant-loop-k
invariant-loop-k l = option_map pure_scalar (l.found) ≡ greatest (map pure_scalar (drop (length l.items - l.k) l.items))
