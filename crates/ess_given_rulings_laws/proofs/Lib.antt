-- Rules of all sorts but that of counted sources
pub mod GivenRulings
-- Reserved names by their roles
pub mod Roles
pub mod NamesServe
pub mod OrderedRoles
-- Steps, and chains of them
pub mod RulingSteps
pub mod RulingChains
-- Worked examples
mod ExamplesOrderedSteps
