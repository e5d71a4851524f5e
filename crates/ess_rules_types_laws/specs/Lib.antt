pub mod PutTypes
pub mod TypesOfSources
pub mod TypesOfOthers
