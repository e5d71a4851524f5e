-- Bare and in scope
pub mod Ranged
pub mod BareParts
pub mod BareLevels
pub mod BareSizes
pub mod BareStructures
pub mod MarkedShapes
-- Names
pub mod SpreadNames
pub mod LevelsAlike
-- Told apart
pub mod ToldBare
pub mod ToldCounts
pub mod ToldValues
-- Values
pub mod RangedValues
-- Counts
pub mod FewBinders
-- Views of nested sets
pub mod NestedDepths
pub mod NestedViews
pub mod NestedStructures
-- Worked examples
mod Examples
