pub mod PartsOfComponents
pub mod PartsOfSizes
pub mod PartsOfKinds
pub mod OrderOfComponents
pub mod OrderOfSizes
pub mod OrderOfKinds
pub mod GivenKinds
mod ExamplesKinds
