-- The texts
pub mod Texts
pub mod CellTexts
-- What is counted
pub mod Members
pub mod Counted
-- The line that is told
pub mod Line
pub mod Told
pub mod Reading
pub mod Lines
pub mod Writing
pub mod Seen
pub mod Whole
pub mod Ending
pub mod Refusals
pub mod Refining
pub mod Tasks
pub mod Reasons
pub mod Judging
pub mod Decided
pub mod Testing
pub mod Translating
pub mod TranslationDecided
pub mod Runs
pub mod Standing
pub mod Holding
