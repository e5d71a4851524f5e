-- What the row of names has for a name
pub mod Lookups
-- Bounds, ranges, index domains
pub mod SumForms
pub mod RangeForms
pub mod AxesFollowed
-- Numbers of operands, and what is left of a tree
pub mod OperandCounts
pub mod Weights
-- Worked examples
mod Examples
