pub mod Widened
pub mod OwnForms
pub mod AllCells
pub mod Cells
pub mod TablesInOrder
