-- What texts of cells stand for
pub mod TableReading
-- The text of tables
pub mod CellsText
-- Laws
pub mod Laws
