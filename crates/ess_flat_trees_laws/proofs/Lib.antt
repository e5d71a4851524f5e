-- Flat trees on their way to a rule
pub mod FlatTrees
