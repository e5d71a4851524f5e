-- Each rule that fires is one of all rules
pub mod RuledRoots
pub mod KindTurns
-- Rules of ordered comprehensions
pub mod OrderedRoots
pub mod SpecialRoots
-- A root with its source told apart
pub mod SourcedRoots
-- What the rules together make of a root
pub mod Turned
-- The least and the greatest under a condition
pub mod LeastUnderACondition
-- None of the rules that are asked fires
pub mod NoneOfRules
pub mod NoneFires
-- Generators with an open part, one by one
mod OpenParts
-- Worked examples
mod ExamplesRuled
mod ExamplesWaiting
