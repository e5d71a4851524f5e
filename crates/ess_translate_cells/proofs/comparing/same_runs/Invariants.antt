use Rattle.ess_translate_cells.proofs.Cells.{SameBehind}
use Rattle.ess_translate_cells.proofs.comparing.same_runs.Given as goal

abbrev pub invariant-loop-place : goal.invariant-loop-place
invariant-loop-place l = SameBehind l.a l.b l.place
