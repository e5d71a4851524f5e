pub mod AxesMarked
pub mod SourcesTyped
pub mod OperandsOffered
pub mod ItemsTyped
pub mod OrderedKeep
pub mod ConditionsTyped
pub mod GatheringKeeps
mod ExamplesTyped
