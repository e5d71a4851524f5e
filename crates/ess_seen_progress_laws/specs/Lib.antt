-- Rules that fire as long as something abstract is left
pub mod MovesOn
-- The law of trees over views
pub mod Laws
