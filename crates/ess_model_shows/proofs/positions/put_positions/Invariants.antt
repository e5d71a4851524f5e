use Rattle.std.proofs.Common.{suc, ◌≤◌, ◌++◌, length, drop}
use Rattle.conjure_model_laws.specs.Shown.{positions_from}
use Rattle.ess_model_shown.specs.Tables.{pure_names, SameNames}
use Rattle.ess_model_shows.proofs.positions.put_positions.Given as goal

abbrev pub invariant-loop-left : goal.invariant-loop-left
invariant-loop-left l = record {
  within : l.left ≤ length l.values;
  put : SameNames (pure_names l.names) (positions_from (suc l.left) (drop l.left l.values) ++ pure_names l.initial.names);
}

abbrev pub decreases-loop-left : goal.decreases-loop-left
decreases-loop-left l = l.left
