pub mod Forms
pub mod Smaller
pub mod KeptNodes
pub mod Chains
pub mod RootMeanings
mod ExamplesSimplifying
pub mod WholeNodes
pub mod WholeTrees
