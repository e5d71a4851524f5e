use Rattle.ess_domains.specs.Assignments.{pure_assignment}
use Rattle.ess_translate_given.proofs.TablesInTurn.{IsSoFar}
use Rattle.ess_translate_given.proofs.tables.all_tables.Given as goal

abbrev pub invariant-loop-i : goal.invariant-loop-i
invariant-loop-i l = IsSoFar (pure_assignment l.param) l.plans l.closed l.i l.all
