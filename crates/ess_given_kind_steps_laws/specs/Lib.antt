-- What callers name of libraries below
pub use Rattle.ess_given_kinds_laws.specs as ess_given_kinds_laws
-- Steps by rules of kinds
pub mod GivenKindSteps
