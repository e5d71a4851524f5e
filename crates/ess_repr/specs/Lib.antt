pub mod Sized
pub mod CellUses
pub mod Fronts
