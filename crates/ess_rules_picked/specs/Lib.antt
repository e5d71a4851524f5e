-- The terms at one index, and what picks a value
pub mod Picked
-- An index of several steps
pub mod Paths
