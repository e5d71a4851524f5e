pub mod ValueEquations
pub mod StateSteps
