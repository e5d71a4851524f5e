-- Numbers kept at a limit
pub mod Kept
-- Numbers outside of ranges
pub mod Uncovered
pub mod Sweeps
-- Cells on the way down
pub mod Counted
pub mod Products
pub mod LayerCounts
pub mod KindCounts
