-- Numbers that have a value by their form
pub mod ThereByForm
-- How many items a list may have at most
pub mod MostItems
-- Comprehensions over sources whose items are counted
pub mod CountedSources
-- Equality of lists by the numbers of their items
pub mod EqualByNumber
-- Signs between lists by the numbers of their items
pub mod OrderByNumber
-- Lists in place of matrices that aren't numbered from 1
pub mod ListedPicks
-- All these rules
pub mod NumberRules
-- What it is to be a bound of how many items there are
pub mod Bounds
-- What is said of counted sources, and of equality by numbers
pub mod CountedLaws
-- What is said of signs between lists
pub mod OrderLaws
-- That bounds are right
pub mod BoundLaws
-- What is said of lists in place of matrices that aren't numbered from 1
pub mod ListedLaws
