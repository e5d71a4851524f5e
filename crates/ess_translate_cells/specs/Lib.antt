-- Cells of slots and flags
pub mod OwnCells
-- Ranges side by side
pub mod SameRuns
-- Tables side by side
pub mod ClosedTables
