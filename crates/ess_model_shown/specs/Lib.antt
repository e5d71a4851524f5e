-- Trees over tables
pub mod ShownParts
-- What is kept for names
pub mod Tables
