use Rattle.std.proofs.Common.{◌≡◌, take}
use Rattle.ess_core.proofs.statements.Spec.copy.Given as goal

abbrev pub invariant-loop-stm : goal.invariant-loop-stm
invariant-loop-stm l = l.stms ≡ take l.stm-index l.stm-items
