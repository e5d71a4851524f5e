-- What callers name of libraries below
pub use Rattle.ess_given_opened_laws.specs as ess_given_opened_laws
-- What stays where conditions are gathered and where items have an order
pub mod OrderedNames
pub mod OrderedStays
