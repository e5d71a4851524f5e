-- The structure of one layer, given that of its child
pub mod Layers
-- The tables and the structure of a layer, by what stands below it
pub mod Over
