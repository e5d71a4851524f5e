pub mod Generators
pub mod Maps
pub mod Paths
pub mod Tables
