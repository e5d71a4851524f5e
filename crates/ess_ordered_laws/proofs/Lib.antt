-- Members of a domain and their numbers
pub mod Places
-- Items by their numbers: over one domain
pub mod NumberedItems
-- The item at a number, of lists one behind the other
pub mod NumbersBehind
-- Comprehensions behind a generator
pub mod ItemsBehind
-- Items by their numbers, generator by generator
pub mod NumberedGenerators
-- Sources by their indices
pub mod IndexedSources
-- Comprehensions over what is picked
pub mod PickedSources
-- Sources that are items by number
pub mod SourcesOfItems
-- Worked examples
mod ExamplesOrdered
-- The same over several generators
mod ExamplesSeveral
-- The same over what is picked
mod ExamplesPicked
-- The same by told indices, and over items
mod ExamplesTold
