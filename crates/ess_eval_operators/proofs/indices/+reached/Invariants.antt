use Rattle.std.proofs.Common.{length}
use Rattle.ess_eval_operators.proofs.indices.+reached.Given as goal

abbrev pub decreases-reached : goal.decreases-reached
decreases-reached l = length l.steps.now
