-- What rules of views of sets ask so as to keep types and marks
pub mod SetsTyped
-- Chains of such rules
pub mod SetChainsTyped
