-- Both sides of a model
pub mod Sides
