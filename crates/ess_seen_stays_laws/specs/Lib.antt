-- What callers name of libraries below
pub use Rattle.ess_seen_everywhere_laws.specs as ess_seen_everywhere_laws
-- The law
pub mod Laws
