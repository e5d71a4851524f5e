-- Plans one by one
mod PlanSteps
-- Names one by one
mod NameSteps
-- The same where the same stands in the place of names
pub mod SameDeclared
