use Rattle.ess_types_laws.proofs.laws.members_have_their_type.Goals as goal
use Rattle.ess_types_laws.proofs.MembersTyped.{member-fits}

pub returns : goal.returns
returns c = λ d q env. member-fits env d q
