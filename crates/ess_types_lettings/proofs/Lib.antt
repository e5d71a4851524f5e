pub mod Paths
pub mod Putting
pub mod Steps
