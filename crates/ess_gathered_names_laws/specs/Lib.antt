-- The names of gathered conditions
pub mod GatheredNames
