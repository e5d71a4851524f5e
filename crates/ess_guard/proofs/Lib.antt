-- What a view asks
pub mod SeenParts
-- Comprehensions of nodes
pub mod Comprehensions
-- Generators one by one, rows of trees
pub mod StepParts
pub mod Rows
-- Worked examples
mod Examples
