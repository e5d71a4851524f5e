-- Parts at which rules are used as they stand
pub mod Roots
-- Rules that are asked
pub mod Asked
-- Settled trees
pub mod Settled
-- Worked examples
mod ExamplesAsked
