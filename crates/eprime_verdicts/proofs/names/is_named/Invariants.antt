use Rattle.eprime_verdicts.proofs.NamesInOrder.{NamedBehind}
use Rattle.eprime_verdicts.proofs.names.is_named.Given as goal

abbrev pub invariant-loop-table : goal.invariant-loop-table
invariant-loop-table l = NamedBehind l.tables l.name l.table-index
