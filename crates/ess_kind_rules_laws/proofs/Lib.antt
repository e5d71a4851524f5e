-- Worked examples of the rules that read the kind of a view
pub mod ExamplesKinds
-- Worked examples of lookups
pub mod ExamplesLookups
