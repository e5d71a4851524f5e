-- Domains of children, and what operators ask
pub mod Kept
-- Terms at one component or field, and views of tuples and records by their parts
pub mod Stepped
