use Rattle.std.proofs.Common.{◌≡◌, ◌+◌, map, drop}
use Rattle.ess_core.specs.StatementViews.{pure_stm}
use Rattle.ess_types.specs.Progress.{IsBetween, verdict_behind}
use Rattle.ess_types.specs.Verdicts.{verdict}
use Rattle.ess_types.proofs.checking.run.Given as goal

abbrev pub invariant-loop-i : goal.invariant-loop-i
invariant-loop-i l = record {
  between : IsBetween l.progress.scope l.progress.stems;
  verdict : verdict_behind (l.i + 1) (map pure_stm (drop l.i l.stms)) l.progress ≡ verdict (map pure_stm l.stms);
}
