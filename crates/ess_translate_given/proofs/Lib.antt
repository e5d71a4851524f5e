-- Numbers of cells
pub mod KeptLoops
pub mod HeaderCounts
-- Tables
pub mod NamedRows
pub mod PlanTables
pub mod TablesInTurn
pub mod ReadyGivens
