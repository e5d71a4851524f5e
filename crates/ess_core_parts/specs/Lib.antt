-- The numbered parts of trees
pub mod Numbered
pub mod Parts
