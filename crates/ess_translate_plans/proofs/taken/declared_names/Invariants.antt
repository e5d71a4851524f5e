use Rattle.std.proofs.Common.{drop, []}
use Rattle.ess_translate_plans.proofs.Turns.{Together, declared_by}
use Rattle.ess_translate_plans.proofs.taken.declared_names.Given as goal

abbrev pub invariant-loop-stm : goal.invariant-loop-stm
invariant-loop-stm l = Together (declared_by (drop l.stm-index l.stms)) l.names (declared_by l.stms) []
