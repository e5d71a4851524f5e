-- Sizes by plans
pub mod Sizes
-- Scalars by plans
pub mod Scalars
