use Rattle.ess_refine_laws.proofs.laws.everywhere_serves.Goals as goal
use Rattle.ess_refine_laws.proofs.Everywhere.{everywhere-serves}

pub returns : goal.returns
returns c = everywhere-serves
