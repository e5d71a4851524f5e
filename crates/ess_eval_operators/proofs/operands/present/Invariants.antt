use Rattle.std.proofs.Common.{◌≡◌, map, take, Some}
use Rattle.ess_eval_operators.proofs.operands.present.Given as goal

abbrev pub invariant-loop-operand : goal.invariant-loop-operand
invariant-loop-operand l = map Some l.vals ≡ take l.operand-index l.operands
