pub mod OrderedLookupsCounted
pub mod ItemsCounted
pub mod OrderedCounted
