-- Lemmas on texts, and on the walk over the statements of a specification
pub mod Spelled
pub mod Walking
pub mod NewNames
pub mod LargeWalks
