-- Finds with their values
pub mod StoodValues
