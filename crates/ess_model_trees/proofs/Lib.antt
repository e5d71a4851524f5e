-- What comes of writing
pub mod Coming
-- Trees at which no rule fires, by a test
pub mod Rests
-- Worked examples
pub mod ExamplesWritten
