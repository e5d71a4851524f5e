pub mod Assigned
pub mod Marks
pub mod MoreFixed
pub mod ToldPatterns
pub mod ToldGiven
pub mod ScopedGiven
pub mod ToldTrees
pub mod GivenAxes
pub mod FixedParts
pub mod GivenSteps
pub mod GivenChains
pub mod ConditionsEnd
pub mod GivenInConditions
mod ExamplesGivenInConditions
