use Rattle.std.proofs.Common.{◌≡◌, ◌++◌, drop, option_map}
use Rattle.ess_repr_rows_laws.specs.Cutting.{counted_from}
use Rattle.ess_repr_tables.proofs.numbers.counted.Given as goal

abbrev pub invariant-loop-k : goal.invariant-loop-k
invariant-loop-k l = counted_from 0 l.counts ≡ option_map (λ ks. l.numbers ++ ks) (counted_from l.k (drop l.k l.counts))
