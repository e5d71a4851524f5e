use Rattle.ess_given_kinds_laws.proofs.laws.kinds_keep_given.Goals as goal
use Rattle.ess_given_kinds_laws.proofs.GivenKinds.{kinds-keep-given}

pub returns : goal.returns
returns c = kinds-keep-given
