-- As many operands
mod Alongside
-- Simplified
mod Kept
mod SimplerNodes
mod Simplifying
-- With printed names
mod Printing
-- With plain keys
mod Formed
mod KeyedNodes
mod Keying
-- What is written
pub mod Written
-- Trees that rules end in
pub mod Ended
pub mod Flat
pub mod Seen
-- Ranges of parts, and of trees whose names are told apart
pub mod PartRanges
pub mod ToldRanges
-- Worked examples
mod ExamplesLowered
