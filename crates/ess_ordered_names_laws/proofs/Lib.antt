-- The names of lookups, and of what is picked out of them
pub mod NamesOfLookups
-- The names of what selections pick
pub mod NamesOfPicks
-- The names of index domains that are told
pub mod NamesOfAxes
-- The names of sources by their indices, and of sources that are items
pub mod NamesOfSources
-- The names of the rules
pub mod OrderedNames
-- Worked examples
mod ExamplesNames
