pub mod Behind
pub mod Paths
pub mod Putting
