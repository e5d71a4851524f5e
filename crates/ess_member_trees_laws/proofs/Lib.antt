-- A step at an open part
pub mod PartSteps
-- Rules that read no kind
pub mod PlainRules
-- Rules that read the kind of a view
pub mod KindRules
-- Rules of sources and of what is picked
pub mod OpenRules
-- All rules
pub mod AllRules
-- Trees of a membership stay such
pub mod Closed
-- Worked examples
mod Examples
