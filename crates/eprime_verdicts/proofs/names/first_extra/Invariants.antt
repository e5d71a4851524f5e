use Rattle.eprime_verdicts.proofs.NamesInOrder.{ExtraBehind}
use Rattle.eprime_verdicts.proofs.names.first_extra.Given as goal

abbrev pub invariant-loop-place : goal.invariant-loop-place
invariant-loop-place l = ExtraBehind l.decls l.tables l.place
