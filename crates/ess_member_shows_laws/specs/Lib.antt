-- What callers name of libraries below
pub use Rattle.ess_member_models_laws.specs.ess_member_rules_laws as ess_member_rules_laws
pub use Rattle.ess_member_models_laws.specs.ess_member_trees_laws as ess_member_trees_laws
-- The laws
pub mod Laws
