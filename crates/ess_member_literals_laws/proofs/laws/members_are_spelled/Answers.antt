use Rattle.ess_member_literals_laws.proofs.MemberLiterals.{members-are-spelled}
use Rattle.ess_member_literals_laws.proofs.laws.members_are_spelled.Goals as goal

pub returns : goal.returns
returns c = members-are-spelled
