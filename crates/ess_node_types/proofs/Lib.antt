pub mod DomainTypes
pub mod FieldTypes
pub mod GeneratorTypes
pub mod NewestNames
pub mod OperandCounts
pub mod Operands
pub mod OperatorNodes
pub mod StepsTaken
