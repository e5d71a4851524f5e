-- What callers name of libraries below
pub use Rattle.ess_open_rules_laws.specs as ess_open_rules_laws
pub use Rattle.ess_kind_rules_laws.specs as ess_kind_rules_laws
-- Flat total trees
pub mod Flat
-- Their laws
pub mod Laws
