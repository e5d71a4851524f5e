-- What is entered, part by part
pub mod EnteringLaws
-- Positions of values
pub mod PositionLaws
-- Behind statements
pub mod Behind
-- Worked examples
pub mod Examples
