-- What refined operators ask of their operands
pub mod Refined
-- Parts of trees at which rules fire
pub mod Lifts
-- Where rules fire at the root
pub mod AtRoots
-- Trees over views move on
pub mod Moving
-- Worked examples
mod ExamplesMoving
