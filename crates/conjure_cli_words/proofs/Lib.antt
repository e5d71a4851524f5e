mod Examples
pub mod Looks
pub mod Tables
pub mod Rows
pub mod Turns
pub mod Adds
pub mod Outcomes
pub mod Walks
pub mod Fits
pub mod Levels
pub mod Parsed
pub mod Digits
pub mod Found
