-- What callers name of libraries below
pub use Rattle.ess_bare_structures_laws.specs as ess_bare_structures_laws
-- The laws of values of trees over views
pub mod Laws
