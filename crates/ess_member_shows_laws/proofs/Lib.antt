-- The plan of each find
pub mod FindPlans
-- What stands in the place of names
pub mod ShownNames
-- Declared tables, and the first printed name
pub mod ShownTables
