-- Sets that are kept by which members occur
pub mod KeptSets
-- The laws
pub mod Laws
