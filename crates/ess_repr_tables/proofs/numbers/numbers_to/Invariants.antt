use Rattle.std.proofs.Common.{◌≡◌}
use Rattle.ess_repr_rows_laws.specs.Cutting.{numbers_from}
use Rattle.ess_repr_tables.proofs.numbers.numbers_to.Given as goal

abbrev pub invariant-loop-k : goal.invariant-loop-k
invariant-loop-k l = l.numbers ≡ numbers_from 0 l.k
