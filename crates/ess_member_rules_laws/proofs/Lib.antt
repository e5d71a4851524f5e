-- What is written
pub mod Forms
-- What it says over tables
pub mod Means
