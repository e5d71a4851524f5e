-- What the contracts of this crate say beside the definitions of operators
pub mod Connectives
pub mod Extremes
pub mod Items
pub mod Numbers
pub mod Products
