-- Bounds one by one
mod BoundSteps
-- Domains of what their bounds become
mod DomainLaws
-- Domains one by one
mod DomainSteps
-- Declarations one by one
mod DeclarationSteps
-- Lines
mod LineLaws
-- Worked examples
mod Examples
-- What comes of things one after the other
pub mod Rows
-- Constraints of statements
pub mod Statements
-- `true` isn't written
pub mod Truths
-- From nodes to expressions
pub mod Written
-- Worked examples
pub mod ExamplesRules
