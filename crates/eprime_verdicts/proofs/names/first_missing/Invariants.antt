use Rattle.eprime_verdicts.proofs.NamesInOrder.{MissingBehind, table_keys}
use Rattle.eprime_verdicts.proofs.names.first_missing.Given as goal

abbrev pub invariant-loop-decl : goal.invariant-loop-decl
invariant-loop-decl l = MissingBehind l.decls (table_keys l.tables) l.decl-index
