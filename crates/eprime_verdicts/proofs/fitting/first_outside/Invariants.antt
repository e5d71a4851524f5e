use Rattle.eprime_verdicts.proofs.TablesFit.{OutsideBehind}
use Rattle.eprime_verdicts.proofs.fitting.first_outside.Given as goal

abbrev pub invariant-loop-place : goal.invariant-loop-place
invariant-loop-place l = OutsideBehind l.decls l.tables l.place
