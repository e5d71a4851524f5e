use Rattle.std.proofs.Common.{◌≡◌, ◌++◌, map, drop}
use Rattle.ess_semantics.specs.Solutions.{finds}
use Rattle.ess_core.specs.StatementViews.{pure_stm}
use Rattle.ess_translate_solutions.proofs.solutions.find_names.Given as goal

abbrev pub invariant-loop-stm : goal.invariant-loop-stm
invariant-loop-stm l = l.names ++ finds (map pure_stm (drop l.stm-index l.stms)) ≡ finds (map pure_stm l.stms)
