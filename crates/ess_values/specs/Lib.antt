-- What the contracts of this crate say beside the definitions of the meaning
pub mod Forms
pub mod Items
pub mod Literals
pub mod Neighbours
pub mod Parts
pub mod Places
pub mod Printing
pub mod Ranges
pub mod Runs
pub mod Shapes
pub mod TypedLiterals
