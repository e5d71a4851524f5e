pub mod Ahead
pub mod Bound
pub mod Generators
pub mod Maps
pub mod Nodes
pub mod Operands
pub mod Paths
pub mod Tables
