-- What callers name of libraries below
pub use Rattle.ess_kind_rules_laws.specs as ess_kind_rules_laws
pub use Rattle.ess_open_rules_laws.specs as ess_open_rules_laws
pub use Rattle.ess_flat_laws.specs as ess_flat_laws
-- Bare trees
pub mod Bare
-- What rules end in, and what is written for it
pub mod Lean
-- Their parts
pub mod BareParts
-- The rules that fire in them
pub mod Fires
-- Their laws
pub mod Laws
