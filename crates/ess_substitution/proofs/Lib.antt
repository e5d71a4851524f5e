-- Rows one by one
pub mod Rows
-- Worked examples
pub mod ExamplesItems
