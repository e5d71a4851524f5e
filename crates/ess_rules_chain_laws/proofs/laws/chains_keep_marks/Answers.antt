use Rattle.ess_rules_chain_laws.proofs.laws.chains_keep_marks.Goals as goal
use Rattle.ess_rules_chain_laws.proofs.MarkedChains.{chains-keep-marks}

pub returns : goal.returns
returns c = chains-keep-marks
