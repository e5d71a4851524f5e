-- The bounds of ranges
pub mod Ranges
-- What is promised
pub mod Laws
