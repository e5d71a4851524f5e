-- What stays by rules of openings
pub mod OpenedStays
