-- What is answered on a text of cells
pub mod CellFiles
-- The refusals of the parts
pub mod Refusals
-- What is answered on all texts of a translation
pub mod Translations
