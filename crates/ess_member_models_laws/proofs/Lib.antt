-- The line of a table
pub mod Lines
-- The table of each membership
pub mod MemberTables
-- Numbers that rules spell
pub mod MemberTexts
-- Tables as they are declared
pub mod TurnedTables
-- The models
pub mod MemberModels
