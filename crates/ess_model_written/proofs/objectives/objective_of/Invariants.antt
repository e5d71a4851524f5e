use Rattle.std.proofs.Common.{◌≡◌, map, drop}
use Rattle.ess_semantics.specs.ModelTrees.{goal_of}
use Rattle.ess_core.specs.StatementViews.{pure_stm}
use Rattle.ess_model_written.proofs.objectives.objective_of.Given as goal

abbrev pub invariant-loop-stm : goal.invariant-loop-stm
invariant-loop-stm l = goal_of (map pure_stm (drop l.stm-index l.stms)) ≡ goal_of (map pure_stm l.stms)
