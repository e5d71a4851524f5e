-- What callers name of libraries below
pub use Rattle.ess_given_ordered_laws.specs.ess_given_opened_laws as ess_given_opened_laws
-- Rules of all sorts but that of counted sources
pub mod GivenRulings
-- What steps of openings count on
pub mod OpeningSteps
-- What steps of comprehensions whose items have an order count on
pub mod OrderedSteps
-- Chains of these rules
pub mod RulingChains
