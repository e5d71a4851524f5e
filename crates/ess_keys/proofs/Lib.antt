-- Names with keys
pub mod Lookups
-- Operators of two operands
pub mod Pairs
-- Generators one by one, rows of trees
pub mod EachItem
pub mod Rows
-- Conditions in a row
pub mod Conditions
-- Long conjunctions
pub mod Conjunctions
