-- What callers name of libraries below
pub use Rattle.ess_flat_laws.specs as ess_flat_laws
-- The class
pub mod FlatSpecifications
-- Its models
pub mod FlatModels
-- The laws
pub mod Laws
