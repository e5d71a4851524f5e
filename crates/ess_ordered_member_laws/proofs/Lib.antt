-- Terms that pick nothing
pub mod PicksNothing
-- Trees of a membership and rules of comprehensions in order
pub mod MembershipOrder
-- Trees of a membership and rules of counted sources
pub mod MembershipNumbers
