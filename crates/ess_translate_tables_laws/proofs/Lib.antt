pub mod HeaderStatements
pub mod DistinctNames
pub mod ChosenAgain
pub mod HeaderPlans
mod ExamplesTables
