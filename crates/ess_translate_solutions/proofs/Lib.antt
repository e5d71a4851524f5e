-- Models of files, the lines of a solution, and cells
pub mod Transported
pub mod SolutionLines
pub mod Cells
-- Worked examples
pub mod ExamplesSolutions
-- The steps of a translation, one after the other
pub mod Joined
