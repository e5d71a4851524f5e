-- Conditions that read cells, gathered behind the generators
pub mod GatheredConditions
