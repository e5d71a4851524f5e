-- What the contracts of this crate say beside the definitions of types
pub mod Paired
pub mod Steps
pub mod Parts
pub mod Places
