pub mod Attributes
pub mod Several
