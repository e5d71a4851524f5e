-- Items of comprehensions by their numbers
pub mod NumberedItems
-- Index domains of lists that are picked
pub mod ToldAxes
-- Sources by their indices
pub mod IndexedSources
-- Sources that are items by number
pub mod SourcesOfItems
-- Comprehensions over what is picked
pub mod PickedSources
-- All these rules
pub mod OrderedRules
-- What is said of them
pub mod Laws
