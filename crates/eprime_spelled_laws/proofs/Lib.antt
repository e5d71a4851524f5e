-- The parts of a list of tokens are one
pub mod OneParts
-- The pieces of a spelled model
pub mod SpelledPieces
-- The law
pub mod SpelledTexts
-- Worked example
mod Examples
