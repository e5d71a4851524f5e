-- What the contracts of this crate say beside the definitions of parameters and solutions
pub mod Assignments
pub mod Verdicts
pub mod Sizes
pub mod Earlier
pub mod Prepared
pub mod Faults
pub mod Stops
pub mod Walked
