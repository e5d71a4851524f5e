-- What callers name of libraries below
pub use Rattle.ess_kind_steps_laws.proofs as ess_kind_steps_laws
pub use Rattle.ess_values_views_laws.proofs as ess_values_views_laws
pub mod SizesValued
pub mod SetsKeepValues
