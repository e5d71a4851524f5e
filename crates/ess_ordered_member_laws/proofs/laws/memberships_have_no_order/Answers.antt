use Rattle.ess_ordered_member_laws.proofs.laws.memberships_have_no_order.Goals as goal
use Rattle.ess_ordered_member_laws.proofs.MembershipOrder.{memberships-have-no-order}

pub returns : goal.returns
returns c = memberships-have-no-order
