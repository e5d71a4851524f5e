use Rattle.ess_ordered_member_laws.proofs.laws.memberships_have_no_numbers.Goals as goal
use Rattle.ess_ordered_member_laws.proofs.MembershipNumbers.{memberships-have-no-numbers}

pub returns : goal.returns
returns c = memberships-have-no-numbers
