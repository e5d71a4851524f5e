-- Answers that rules may give
pub mod Allowed
-- Types of sets, what operands pick, and sources
pub mod SetTypes
pub mod Picks
pub mod Sources
-- Rules at the roots of trees over views
pub mod PlainRules
pub mod KindRules
pub mod OpenRules
pub mod OrderRules
pub mod NumberRules
-- Rules at sets, in numbers of slots and at lists
pub mod SetsRest
pub mod StillRest
pub mod ListsRest
-- All of it
pub mod Few
-- What is known of their types
pub mod Known
-- Worked examples
mod ExamplesFiring
