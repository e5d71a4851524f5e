-- What lists a source in its place
pub mod ListedValues
-- Rules over sources that keep values
pub mod SourcesKeepValues
