-- What callers name of libraries below
pub use Rattle.ess_bare_laws.specs as ess_bare_laws
-- Trees over views
pub mod Seen
-- Their parts
pub mod SeenParts
-- Members in the place of names
pub mod Putting
-- Their laws
pub mod Laws
-- The rules that may fire
pub mod MayFire
-- Names told apart
pub mod Apart
-- Tables with a number at each slot
pub mod Filled
