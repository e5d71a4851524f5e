-- How deep names are bound
pub mod Depth
-- The reserved names that are taken
pub mod Below
-- Their law
pub mod Laws
