-- What callers know
pub mod PartTables
-- Sets and multisets on rows
pub mod SetRows
