use Rattle.eprime_verdicts.proofs.TablesFit.{OverBehind}
use Rattle.ess_translate_cells.proofs.comparing.axes_fit.Given as goal

abbrev pub invariant-loop-place : goal.invariant-loop-place
invariant-loop-place l = OverBehind l.domains l.axes l.place
