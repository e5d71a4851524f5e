pub mod Halving
pub mod Slices
pub mod Risings
