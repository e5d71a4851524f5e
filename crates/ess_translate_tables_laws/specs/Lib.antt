-- The tables of a header
pub mod HeaderTables
-- What is said of them
pub mod Laws
