-- Names that are left
pub mod Left
-- How deep names are bound
pub mod ByNames
pub mod Depths
pub mod Below
-- Worked examples
mod ExamplesDepth
