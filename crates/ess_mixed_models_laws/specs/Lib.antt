-- What callers name of libraries below
pub use Rattle.ess_setwise_laws.specs as ess_setwise_laws
pub use Rattle.ess_setwise_laws.specs.ess_seen_laws as ess_seen_laws
-- The class
pub mod MixedSpecifications
-- Its models
pub mod MixedModels
-- The laws
pub mod Laws
