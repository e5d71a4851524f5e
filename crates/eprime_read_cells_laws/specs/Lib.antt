pub mod CellMachine
pub mod Laws
