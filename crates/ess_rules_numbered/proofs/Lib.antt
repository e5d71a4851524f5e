-- The domain that steps reach
pub mod PickForms
-- How many items lists have at most
pub mod MostForms
pub mod MostWeights
-- Bounds that are there by their form
pub mod ThereForms
-- Where names stand
pub mod NamedParts
-- Comprehensions by their sources, and items of lists by their operands
pub mod BehindForms
-- Counted terms and lists over them
pub mod CountedForms
-- Two sides
pub mod SideForms
-- Lists in place of matrices that aren't numbered from 1
pub mod ListedForms
-- What counts of a supply
pub mod NumbersAlike
-- Worked examples
mod ExamplesNumbered
