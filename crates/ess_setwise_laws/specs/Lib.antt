-- What callers name of libraries below
pub use Rattle.ess_seen_laws.specs as ess_seen_laws
-- Constraints over scalars, ranges and nested sets
pub mod Setwise
-- Their law
pub mod Laws
-- The law of objectives over these
pub mod Objectives
