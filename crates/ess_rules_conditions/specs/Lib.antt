-- Generators taken apart at a condition
pub mod PartedViews
