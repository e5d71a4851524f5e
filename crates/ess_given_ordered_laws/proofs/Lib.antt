-- What callers name of libraries below
pub use Rattle.ess_given_opened_laws.proofs as ess_given_opened_laws
-- Conditions that are gathered
pub mod PartsOfGathering
-- Items by their numbers
pub mod PartsOfItems
pub mod OrderOfItems
-- The rules of items, and of comprehensions over what is picked
pub mod PartsOfOperands
pub mod OrderOfOperands
-- New names, and what operands offer
pub mod NamesGiven
pub mod TermsGiven
-- Index domains of lists that are picked
pub mod CountedGiven
pub mod ToldGiven
-- Sources by their indices
pub mod IndexedGiven
-- Sources that are items
pub mod SourcesOfItems
-- Worked examples
pub mod ExamplesOrderedNames
pub mod ExamplesSourceNames
-- All of it
pub mod OrderedStays
