pub mod OverTyped
pub mod PlacesTyped
pub mod PartsKeepTypes
pub mod WholeTypes
pub mod CountsKeepTypes
pub mod KindsKeepTypes
pub mod KeptMarks
pub mod PartsKeepMarks
pub mod CountsKeepMarks
pub mod KindsKeepMarks
pub mod FreshNames
pub mod SizesTabled
pub mod OfferedTypes
pub mod OfferedPairs
pub mod ViewsOffered
pub mod FoldsKeepTypes
pub mod FoldsKeepMarks
pub mod PicksKept
mod ExamplesKinds
mod ExamplesFolds
