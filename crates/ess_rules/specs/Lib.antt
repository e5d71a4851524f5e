-- The rules at a place of a tree
pub mod Ruled
-- What rules take, in code
pub mod Supplies
-- Conditions that read cells, and how they wait for those of the parts
pub mod WaitingConditions
