-- Lemmas on loops
pub mod StackedTables
pub mod SortedTables
pub mod UsedNumbers
