-- What is picked is looked up
pub mod OrderedLookups
-- Operands in order are looked up
pub mod OperandLookups
-- Sources keep, behind plain generators
pub mod SourcesBehind
-- Each rule keeps what it rewrites
pub mod OrderedRulesKeep
-- Worked examples
mod ExamplesAsks
