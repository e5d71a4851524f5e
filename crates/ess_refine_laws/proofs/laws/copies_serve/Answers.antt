use Rattle.ess_refine_laws.proofs.laws.copies_serve.Goals as goal
use Rattle.ess_refine_laws.proofs.Copies.{copies-serve}

pub returns : goal.returns
returns c = copies-serve
