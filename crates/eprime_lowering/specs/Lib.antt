-- What is left of trees, and of their parts, where they are
pub mod Lowered
-- Ranges of their forms and their bounds
pub mod Ranges
