use Rattle.std.proofs.Common.{◌≡◌, ◌++◌}
use Rattle.ess_repr_rows_laws.specs.Stacking.{zeros}
use Rattle.ess_repr_tables.proofs.stacking.add_zeros.Given as goal

abbrev pub invariant-loop-k : goal.invariant-loop-k
invariant-loop-k l = l.items ≡ l.initial.items ++ zeros l.k
