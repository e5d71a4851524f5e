-- What callers name of libraries below
pub use Rattle.ess_given_kinds_laws.proofs as ess_given_kinds_laws
pub mod CountingNames
pub mod PartsGiven
pub mod SameMarks
pub mod KindSteps
