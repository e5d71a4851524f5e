-- What callers name of libraries below
pub use Rattle.ess_given_offers_laws.specs as ess_given_offers_laws
-- Rules of kinds keep what is given
pub mod GivenKinds
