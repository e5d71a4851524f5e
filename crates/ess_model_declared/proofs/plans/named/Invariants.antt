use Rattle.std.proofs.Common.{◌≡◌, ◌-◌, ◌++◌, map, drop, length}
use Rattle.ess_declared_trees.specs.TableViews.{pure_declared}
use Rattle.ess_model_declared.proofs.NameSteps.{named_tables}
use Rattle.ess_model_declared.proofs.plans.named.Given as goal

abbrev pub invariant-loop-i : goal.invariant-loop-i
invariant-loop-i l = map pure_declared l.all ++ named_tables (drop l.i l.names) (drop l.i l.tables) ≡ named_tables l.names l.tables

abbrev pub decreases-loop-i : goal.decreases-loop-i
decreases-loop-i l = length l.names - l.i
