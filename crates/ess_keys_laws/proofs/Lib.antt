-- What forms tell
pub mod Conjunctions
pub mod Forms
pub mod Folds
-- Keys of generators
pub mod OneKey
pub mod AtKey
pub mod Bound
pub mod Keying
pub mod Refined
pub mod FoldsRefined
pub mod StaysRefined
-- Worked examples
mod Examples
