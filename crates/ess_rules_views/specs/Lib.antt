-- Forms of views
pub mod ViewForms
-- What rules make of them
pub mod ViewRules
-- The code's parts of views
pub mod CodeViews
-- What one step of an index picks
pub mod Picked
