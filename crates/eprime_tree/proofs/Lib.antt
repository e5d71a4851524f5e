pub mod Equations
pub mod NamesAndCells
pub mod ReadBack
pub mod ReadableModels
pub mod ModelsRead
pub mod HeaderLines
pub mod HeadLines
mod Putting
mod RangesFit
mod PrintedExpressions
mod Loops
mod PrintedLists
mod NextItem
mod PrintedModels
mod PrintedCells
pub mod WholeModels
mod ExamplesModels
