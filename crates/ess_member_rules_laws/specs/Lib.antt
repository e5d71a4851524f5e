-- What callers name of libraries below
pub use Rattle.ess_member_trees_laws.specs as ess_member_trees_laws
-- What is written for trees of a membership
pub mod WrittenForms
-- The laws
pub mod Laws
