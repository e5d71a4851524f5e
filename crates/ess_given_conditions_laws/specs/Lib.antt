-- What is fixed and given at a place
pub mod InScope
-- Sets of names that grow by reserved names alone
pub mod GrowingNames
-- Trees that are told apart
pub mod ToldTrees
-- Index domains of matrices
pub mod GivenAxes
-- Chains of steps
pub mod GivenChains
-- Conditions where rewriting ends
pub mod ConditionsEnd
-- All of it together
pub mod GivenInConditions
