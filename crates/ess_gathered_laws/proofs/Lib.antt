-- Conditions at the bindings of generators
pub mod Gathered
-- The rule keeps what it rewrites
pub mod Gathering
-- Worked examples
mod ExamplesGathered
