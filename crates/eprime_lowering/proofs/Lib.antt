-- Ranges
pub mod RangeLaws
pub mod RangeLoops
-- What is left of trees, form by form
pub mod Nodes
pub mod Forms
pub mod Parts
