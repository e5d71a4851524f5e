-- Indices that the judgements let through
pub mod IndexedItems
-- What is proved
pub mod Laws
