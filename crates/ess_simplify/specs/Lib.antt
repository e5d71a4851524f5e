pub mod Roots
pub mod Turns
