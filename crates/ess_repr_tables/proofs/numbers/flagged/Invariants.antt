use Rattle.std.proofs.Common.{◌≡◌, ◌++◌, drop, option_map}
use Rattle.ess_repr_rows_laws.specs.Cutting.{flagged_from}
use Rattle.ess_repr_tables.proofs.numbers.flagged.Given as goal

abbrev pub invariant-loop-k : goal.invariant-loop-k
invariant-loop-k l = flagged_from 0 l.flags ≡ option_map (λ ks. l.numbers ++ ks) (flagged_from l.k (drop l.k l.flags))
