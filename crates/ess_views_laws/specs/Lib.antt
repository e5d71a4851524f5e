-- Components of tuples and records
pub mod ComponentViews
-- Items of matrices
pub mod MatrixViews
-- Values kept as another value
pub mod ChildViews
-- Multisets
pub mod MultisetViews
-- Partitions by the number of each member's part
pub mod PartitionViews
