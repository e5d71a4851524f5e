-- What callers name of libraries below
pub use Rattle.ess_member_rules_laws.specs as ess_member_rules_laws
pub use Rattle.ess_member_rules_laws.specs.ess_member_trees_laws as ess_member_trees_laws
-- Models of memberships
pub mod MemberModels
-- The laws
pub mod Laws
