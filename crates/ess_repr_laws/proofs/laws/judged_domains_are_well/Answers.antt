use Rattle.ess_repr_laws.proofs.laws.judged_domains_are_well.Goals as goal
use Rattle.ess_repr_laws.proofs.JudgedStatements.{stated-well, found-known, given-known}

pub returns : goal.returns
returns c = record { well = stated-well; found = found-known; given = given-known }
