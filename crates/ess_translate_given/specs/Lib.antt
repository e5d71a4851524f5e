-- Numbers of cells that are kept at a limit, beside plans
pub mod KeptCounts
-- What a plan of a given needs
pub mod ReadyPlans
-- Tables that were made of plans
pub mod TablesBehind
