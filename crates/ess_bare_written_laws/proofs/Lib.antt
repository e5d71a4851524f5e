-- Lean trees
pub mod FromBare
pub mod FromEnded
pub mod Forms
-- Simplified
pub mod Truths
pub mod Simplifying
pub mod Scopes
-- With plain keys
pub mod Origins
pub mod Keys
pub mod KeyedNodes
pub mod Keying
pub mod KeyedDepths
-- Printed
pub mod PrintedNames
pub mod Printing
pub mod PrintedByDepth
-- As models have them
pub mod KindedNodes
pub mod KindedTrees
-- What is written
pub mod Written
-- Worked examples
mod ExamplesWritten
