-- The names of what rules of ordered comprehensions make
pub mod OrderedNames
