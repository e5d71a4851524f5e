-- Flat trees over scalars of named types
pub mod NamedFlat
-- The law
pub mod Laws
