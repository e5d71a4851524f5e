-- Tests
mod Tests
-- Refined trees and those of models
mod Operators
pub mod Refined
pub mod Lowered
-- Worked examples
mod ExamplesLowerable
