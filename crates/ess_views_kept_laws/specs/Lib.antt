-- Components of tuples and records
pub mod ComponentsKept
-- Items of matrices
pub mod ItemsKept
-- Values kept as another value
pub mod ChildrenKept
-- Multisets
pub mod MultisetsKept
-- Partitions by the number of each member's part
pub mod PartitionsKept
-- Listings of multisets
pub mod MultisetsListed
