use Rattle.ess_refine_laws.proofs.laws.extremes_keep.Goals as goal
use Rattle.ess_refine_laws.proofs.ExtremeRules.{extremes-keep}

pub returns : goal.returns
returns c = extremes-keep
