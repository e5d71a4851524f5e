-- All of it together
pub mod GivenThroughout
-- Index domains over domains
pub mod CountedAxes
-- Worked examples
mod ExamplesThroughout
