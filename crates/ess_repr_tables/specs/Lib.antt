-- Slots with their tables
pub mod SlotViews
pub mod UseViews
