-- Trees over tables
pub mod ShownParts
pub mod SameShown
-- What is kept for names
pub mod Tables
