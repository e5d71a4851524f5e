-- What the rules count on
pub mod OrderedAsks
