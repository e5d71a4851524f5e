-- Lists of what passes a test
pub mod Filtered
-- What is asked of plans
pub mod Asking
-- Channels of finds
pub mod Channels
-- Worked examples
pub mod ExamplesFinds
