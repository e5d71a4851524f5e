use Rattle.std.proofs.Common.{◌≡◌, ◌+◌, drop, option_map}
use Rattle.eprime_eval_scalars.specs.Grids.{place_of}
use Rattle.eprime_eval_scalars.proofs.grids.place_in.Given as goal

abbrev pub invariant-loop-k : goal.invariant-loop-k
invariant-loop-k l = option_map (λ p. l.k + p) (place_of (drop l.k l.numbers) l.number) ≡ place_of l.numbers l.number
