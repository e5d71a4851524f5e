pub mod Lines
pub mod Scopes
pub mod Converted
