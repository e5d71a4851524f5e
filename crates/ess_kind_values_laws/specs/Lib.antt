-- What callers name of libraries below
pub use Rattle.ess_kind_steps_laws.specs as ess_kind_steps_laws
-- Rules of views of sets that keep values
pub mod SetsKeepValues
