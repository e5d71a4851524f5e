-- The test
pub mod TestedTrees
-- Meaning, and trees over cells
pub mod ShownTrees
-- Worked examples
mod Examples
