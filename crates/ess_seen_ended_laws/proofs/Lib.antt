-- What is refined
pub mod Tests
-- Refined trees over views
pub mod Ended
-- Worked examples
mod ExamplesEnded
