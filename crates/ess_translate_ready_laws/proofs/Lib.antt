pub mod OrderOfTypes
pub mod RelationParts
pub mod JudgedFlags
pub mod TypedByTypes
pub mod ReadStatements
pub mod ReadyHeaders
pub mod KnownPlans
pub mod FittingCells
mod ExamplesReady
