use Rattle.ess_member_literals_laws.proofs.MemberLiterals.{members-have-literals}
use Rattle.ess_member_literals_laws.proofs.laws.members_have_literals.Goals as goal

pub returns : goal.returns
returns c = members-have-literals
