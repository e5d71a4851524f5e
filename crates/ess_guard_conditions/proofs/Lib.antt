-- Conditions
pub mod Chains
pub mod Pairs
pub mod FunctionViews
pub mod IndexRanges
pub mod OwnConditions
pub mod Numbers
-- Worked examples
mod Examples
