-- Types of flat trees
pub mod Types
-- What rules ask of them
pub mod Asked
-- Rules at their roots
pub mod PlainRules
pub mod Picks
pub mod KindRules
pub mod OpenRules
-- Parts
pub mod Parts
-- The test
pub mod Tested
-- Worked examples
mod Examples
