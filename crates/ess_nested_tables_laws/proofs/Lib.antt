-- Domains with a representation
pub mod KeptDomains
-- Bounds of declared tables
pub mod TableBounds
pub mod ReckonedTables
pub mod SmallTables
