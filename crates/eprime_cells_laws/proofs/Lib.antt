-- Lemmas
pub mod SpelledTables
pub mod DerivedCells
pub mod ItemsBack
pub mod TablesBack
pub mod NamesBack
pub mod CellsBack
pub mod WholeText
pub mod Written
-- Worked examples
pub mod Examples
pub mod ExamplesTexts
