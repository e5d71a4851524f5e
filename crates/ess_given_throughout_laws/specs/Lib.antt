-- What is given, along chains of all rules but those of counted sources
pub mod GivenThroughout
-- Index domains over domains
pub mod CountedAxes
