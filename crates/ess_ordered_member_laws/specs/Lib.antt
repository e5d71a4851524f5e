-- Trees of a membership have no comprehension in order
pub mod MembershipOrder
-- Nor one over a source whose items are counted
pub mod MembershipNumbers
