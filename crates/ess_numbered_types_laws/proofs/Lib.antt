-- Names that don't stand in a tree
pub mod FreeNames
-- Numbers of items
pub mod NumbersTyped
-- How many items a list has at most
pub mod MostTyped
-- Items and numbers of items
pub mod CountsTyped
-- Sources by numbers
pub mod SourcesNumbered
-- Sides by numbers
pub mod PairsNumbered
-- Equality of lists
pub mod EqualTyped
-- Types that signs compare
pub mod ComparedTypes
-- Signs between lists
pub mod OrderTyped
-- Lists in place of other matrices
pub mod ListedTyped
-- Comprehensions over these
pub mod ListedKeep
-- All rules
pub mod NumberedKeep
-- Worked examples
mod ExamplesTyped
