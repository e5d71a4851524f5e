-- What callers name of libraries below
pub use Rattle.ess_values_sources_laws.proofs as ess_values_sources_laws
pub mod NamedParts
pub mod SplitValues
pub mod BindingsKeepValues
mod ExamplesConditions
