use Rattle.std.proofs.Common.{◌≡◌, take}
use Rattle.eprime_eval_scalars.specs.Grids.{numbers_from}
use Rattle.eprime_eval_scalars.proofs.grids.is_run_from.Given as goal

abbrev pub invariant-loop-k : goal.invariant-loop-k
invariant-loop-k l = numbers_from l.first l.k ≡ take l.k l.numbers
