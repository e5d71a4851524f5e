-- Steps to parts of values
pub mod PickViews
-- How many items lists have at most, by their forms
pub mod MostForms
-- Which bounds are there by their form
pub mod ThereForms
-- Where names stand
pub mod NamedParts
-- Comprehensions by their sources, and items of lists by their parts
pub mod BehindForms
-- Items of lists by their numbers
pub mod CountedForms
-- Two matrices whose items are compared
pub mod SideForms
-- Lists in place of matrices that aren't numbered from 1
pub mod ListedForms
