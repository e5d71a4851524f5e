-- Rows made item by item
pub mod MadeRows
-- Positions
pub mod PlacedValues
pub mod PlacedDomains
-- Types
pub mod TypedValues
pub mod TypedLoops
pub mod Weights
