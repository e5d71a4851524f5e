-- Comprehensions where order counts
pub mod InOrder
-- That they stay in order
pub mod OrderStays
-- Where rewriting ends
pub mod OrderEnds
-- Comprehensions in order at their places
pub mod OrderInScope
