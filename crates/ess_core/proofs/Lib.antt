pub mod ExpressionEquations
pub mod DomainEquations
pub mod PartEquations
pub mod ValueEquations
pub mod TypeEquations
pub mod RepresentationEquations
pub mod InjectiveValues
