-- The names of generators and conditions
pub mod GatheredNames
