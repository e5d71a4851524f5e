-- Slots with a number
pub mod CountedViews
