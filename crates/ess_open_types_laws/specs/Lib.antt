-- What rules of openings ask so as to keep types and marks
pub mod OpeningsTyped
