-- What a well typed specification declares later
pub mod LaterNames
-- Positions that stand for names
pub mod ShownValues
-- Worked example
mod Examples
