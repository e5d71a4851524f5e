use Rattle.ess_refine_laws.proofs.laws.conditions_move.Goals as goal
use Rattle.ess_refine_laws.proofs.MovingConditions.{conditions-move}

pub returns : goal.returns
returns c = conditions-move
