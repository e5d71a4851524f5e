-- The numbers of the items of a list
pub mod CountedNumbers
-- A list by the numbers of its items
pub mod NumberedTerms
-- Comprehensions over such lists, and items of them
pub mod NumberedSources
-- Equality of matrices by how many items there are
pub mod ListsEqual
-- Equality with a comprehension, by numbers
pub mod EqualNumbers
-- The rule of equality by numbers
pub mod EqualitiesKept
-- Worked examples
mod ExamplesCounted
-- The same of equality
mod ExamplesEqual
-- What is asked
mod ExamplesAsked
-- The order of lists by the numbers of their items
pub mod LowerByNumber
-- Items of lists by their numbers
pub mod ItemsByNumber
-- Numbers from 1 on
pub mod NumbersUpTo
-- What signs between lists mean, by numbers
pub mod OrderedLists
-- Signs between lists are kept
pub mod OrderKeeps
-- Worked examples
mod ExamplesOrder
-- Worked examples of bounds
mod ExamplesBounds
-- What holds of an answer
pub mod Answered
-- Index domains of lists
pub mod ListAxes
-- Parts that are no names
pub mod UnnamedParts
-- Domains that steps reach
pub mod ReachedDomains
-- Names in bounds of lists
pub mod MostNames
-- Bounds of lists are numbers
pub mod MostNumbers
-- Values that steps reach
pub mod ReachedValues
-- Sums that bound what is collected
pub mod BoundedSums
-- Values that follow domains
pub mod FollowedDomains
-- Bounds behind generators
pub mod BoundedGenerators
-- What is there where a node is
pub mod OperandsThere
-- Bounds of terms
pub mod BoundedTerms
-- Bounds of all lists
pub mod MostBound
-- Worked examples of lists in place of other matrices
mod ExamplesListed
-- Values that indices lead alike into
pub mod AlikeValues
-- The items of a matrix in the order of its indices
pub mod ItemsInOrder
-- Lists in place of matrices have the same items
pub mod ListedTerms
-- Comprehensions over lists in place of matrices
pub mod ListedSources
