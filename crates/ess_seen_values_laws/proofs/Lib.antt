-- What callers name of libraries below
pub use Rattle.ess_bare_structures_laws.proofs as ess_bare_structures_laws
-- Values of sets
pub mod SetValues
-- Marks and sets
pub mod Marks
-- Views of sets
pub mod SetViews
-- Generators before others
pub mod Tails
-- Names of sizes
pub mod SizeNames
-- Names that are bound
pub mod Names
-- Names of comprehensions
pub mod ListsApart
-- Types of names that generators bind
pub mod DrawnNames
-- Contexts of parts
pub mod Contexts
-- Generators at the first source
pub mod OpenedGens
-- Sets as sources
pub mod SetSources
-- Sets that are made of two as sources
pub mod CombinedSources
-- What sources offer
pub mod SourceOffers
-- Rules of sources
pub mod SourceRules
-- Rules of views
pub mod KindRules
-- Each rule of sources
pub mod SourcesKept
-- Memberships
pub mod MemberRules
-- Rules that read no kind
pub mod PlainRules
-- Signs between sets
pub mod SetSigns
-- Values behind generators
pub mod FilledGens
-- Conditions
pub mod ConditionRules
-- Each rule that reads no kind
pub mod PlainKept
-- Scopes of parts
pub mod ScopesAt
-- All of it
pub mod SeenRulesKeep
-- Worked examples
mod ExamplesSigns
-- Worked examples
mod ExamplesSums
