-- The names of how many items a list has at most
pub mod NamesOfMost
-- The names of lists in place of other matrices
pub mod ListedNames
-- The names of the rules
pub mod NumberedNames
-- Worked examples
mod ExamplesNames
